-- The places of flows in a network in which a node is split.
use Rattle.std.proofs.Common.{◌≡◌, ◌≢◌, ◌↔◌, ◌⊎◌, ℕ, ◌+◌, ◌-◌, ◌<◌, ◌≤◌, Bool, true, false, length, Some, None, ap, arith, inl, inr, refl, subst, sym, ◌∙◌, eq-eqb}
use Rattle.std.specs.Prelude.{◌==◌, IsBitSet, slice_get, slice_index, if◌then◌else◌}
use Rattle.std.proofs.lemmas.Bool.{cases_eq, cases_lt, ne_eqb}
use Rattle.std.proofs.lemmas.List.{get_or-set_other, get_or-set_same, length-set}
use Rattle.std.proofs.lemmas.Option.{get_or_from_slice_get, none-some, same_Some, slice_get_within}
use Rattle.sw_topo.specs.declared.place.PlaceEnd.TheVariants.{Node, Switch}
use Rattle.sw_topo.specs.Wiring.{out, out_of}
use Rattle.sw_topo.proofs.Ends.{node_starts, port_starts}
use Rattle.sw_topo.proofs.PortBits.{pow_members}
use Rattle.sw_route.specs.declared.look.Look.{Look}
use Rattle.sw_route.specs.Looks.{look_of, path_look}
use Rattle.sw_route.specs.Laws.{table_path}
use Rattle.sw_config.specs.Entries.{FlowEntry, Declaration, routes_of, wiring_of}
use Rattle.sw_config.specs.Valid.{IsValid}
use Rattle.sw_flow.specs.Places.{Follows, IsPlace, deleted_behind, end_of, ends_of, look_after, out_at}
use Rattle.sw_flow.specs.Places.IsPlace.{start, next}
use Rattle.sw_flow.specs.Faults.{IsWellRouted}
use Rattle.sw_flow.specs.declared.fault.RouteFault.TheVariants.{WrongLeft, WrongNode}
use Rattle.sw_flow.proofs.Faulty.{faults_are}
use Rattle.sw_flow.proofs.Stepping.{places_are_in}
use Rattle.sw_mend.specs.Splits.{split}
use Rattle.sw_mend.specs.SplitLaws.{ComesByPort, GoesInstead, from_own_node, in_at, own_node, to_own_node}
use Rattle.sw_mend.specs.declared.change.TargetLink.{TargetLink}
use Rattle.sw_mend.proofs.SplitLinks.{IsFound}
use Rattle.sw_mend.proofs.OneLinkMore.{back_end, beside_low, end_kept, end_was, in_linked, in_starts, node_ends, node_kept, node_low, node_was, not_switch, out_is, own_end, own_in, own_out, own_port, own_starts, port_kept, port_was, same_switch}

-- a well routed flow is at no node other than its end
pub elsewhere : (d : Declaration) (f : FlowEntry) (c k n : ℕ) → IsWellRouted d f → IsPlace d f c k → end_of d c ≡ Some (Node n) → n ≢ f.to → ⊥
elsewhere d f c k n well place at other = none-some WrongNode (sym (well c k place) ∙ (faults_are d f c k).wrong_node.1 (n, at, other))

-- and at its end with no other count of bytes than is to be left
pub other_left : (d : Declaration) (f : FlowEntry) (c k : ℕ) → IsWellRouted d f → IsPlace d f c k → end_of d c ≡ Some (Node f.to) → length f.address - k ≢ f.left → ⊥
other_left d f c k well place at other = none-some WrongLeft (sym (well c k place) ∙ (faults_are d f c k).wrong_left.1 (at, other))

-- a channel that a step leads to starts at a switch
pub step_starts : (d : Declaration) (f : FlowEntry) (c k e m : ℕ) (h : Follows d f c k e m) → slice_get (ends_of d) e ≡ Some (Switch h.switch h.named.port)
step_starts d f c k e m h = port_starts (wiring_of d) h.switch h.named.port e h.named.linked

-- ---- one channel in place of another

abbrev pub instead : ℕ → ℕ → ℕ → ℕ
instead old own b = if b == old then own else b

instead_old : (old own b : ℕ) → b ≡ old → instead old own b ≡ own
instead_old old own b same = ap (λ (t : Bool). if t then own else b) (eq-eqb b old same)

instead_other : (old own b : ℕ) → b ≢ old → instead old own b ≡ b
instead_other old own b other = ap (λ (t : Bool). if t then own else b) (ne_eqb b old other)

pub few_more : (b : Bool) (k : ℕ) → (if b then k + 1 else k) ≤ k + 1
few_more true k = omega arith
few_more false k = omega arith

-- a command to the own node has as many address bytes, of which the last alone may be another one
pub own_length : (d : Declaration) (link : TargetLink) (f : FlowEntry) (last : ℕ) → length (to_own_node d link f last).address ≡ length f.address
own_length d link f last = length-set f.address last link.port

pub own_byte : (d : Declaration) (link : TargetLink) (f : FlowEntry) (last k : ℕ) → k ≢ last → slice_index (to_own_node d link f last).address k ≡ slice_index f.address k
own_byte d link f last k other = get_or-set_other f.address last k link.port 0 other

module _ (d : Declaration) (link : TargetLink) (valid : IsValid d) (found : IsFound d link) (free : out_of (ends_of d) link.switch link.port ≡ None) (low : link.port < 32) where
  abbrev left : Declaration
  left = split d link

  abbrev count : ℕ
  count = length (ends_of d)

  -- ---- steps

  -- a step from a channel that ends at the same switch, by a byte that names the same
  pub step_kept : (f g : FlowEntry) (b c k e m p : ℕ) (h : Follows d f b k e m) → end_of left c ≡ Some (Switch h.switch p) → length g.address ≡ length f.address
      → slice_index g.address k ≡ slice_index f.address k → Follows left g c k e m
  step_kept f g b c k e m p h at size same =
      let look : look_after left g h.switch k ≡ look_after d f h.switch k = ap (λ byte. look_of (routes_of d.switches h.switch) byte) same in
      record {
        switch = h.switch;
        port = p;
        ends = at;
        bytes_left = omega (arith, size, h.bytes_left);
        named = record {
          port = h.named.port;
          is_port = h.named.is_port;
          named = subst (λ (l : Look). IsBitSet l.ports h.named.port) (sym look) h.named.named;
          linked = port_kept d link valid found h.switch h.named.port e h.named.linked;
        };
        deleted = h.deleted ∙ ap (λ (l : Look). deleted_behind l k) (sym look);
      }

  -- and back, where it does not lead to the own node
  step_was : (f g : FlowEntry) (b c k e m p : ℕ) (h : Follows left g c k e m) → end_of d b ≡ Some (Switch h.switch p) → length g.address ≡ length f.address
      → slice_index g.address k ≡ slice_index f.address k → Follows d f b k e m ⊎ (e ≡ count + 1)
  step_was f g b c k e m p h at size same =
      let look : look_after left g h.switch k ≡ look_after d f h.switch k = ap (λ byte. look_of (routes_of d.switches h.switch) byte) same in
      elim (port_was d link valid found h.switch h.named.port e h.named.linked) [
        | inl old ↦ inl (record {
          switch = h.switch;
          port = p;
          ends = at;
          bytes_left = omega (arith, size, h.bytes_left);
          named = record {
            port = h.named.port;
            is_port = h.named.is_port;
            named = subst (λ (l : Look). IsBitSet l.ports h.named.port) look h.named.named;
            linked = old;
          };
          deleted = h.deleted ∙ ap (λ (l : Look). deleted_behind l k) look;
        })
        | inr new ↦ inr new.0
      ]

  -- from the own node nothing follows
  none_behind : (f : FlowEntry) (k e m : ℕ) → Follows left f (count + 1) k e m → ⊥
  none_behind f k e m h = not_switch (own_node d) h.switch h.port (sym (back_end d link valid found) ∙ h.ends)

  -- ---- a flow with the same entry

  module _ (f : FlowEntry) where
    pub kept : (c k : ℕ) → IsPlace d f c k → IsPlace left f c k
    kept c k (start at) = start (node_kept d link valid found f.from c at)
    kept c k (next {c = b} {k = j} p h) = next (kept b j p) (step_kept f f b b j c k h.port h (end_kept d link valid found b _ h.ends) refl refl)

    pub others : f.from < own_node d → (c k : ℕ) → IsPlace left f c k → IsPlace d f c k ⊎ (c ≡ count + 1)
    others within c k (start at) = inl (start (node_was d link valid found f.from c within at))
    others within c k (next {c = b} {k = j} p h) =
        elim (others within b j p) [
          | inl old ↦
              elim (step_was f f b b j c k h.port h (end_was d link valid found b _ (places_are_in d f b j old).0 h.ends) refl refl) [
                | inl step ↦ inl (next old step)
                | inr own ↦ inr own
              ]
          | inr own ↦ absurd (none_behind f j c k (subst (λ x. Follows left f x j c k) own h))
        ]

    pub same : f.from < own_node d → f.to < own_node d → IsWellRouted left f → (c k : ℕ) → IsPlace left f c k ↔ IsPlace d f c k
    same from to well c k = (
      λ p. elim (others from c k p) [
        | inl old ↦ old
        | inr own ↦ absurd (elsewhere left f (count + 1) k (own_node d) well (subst (λ x. IsPlace left f x k) own p) (back_end d link valid found) (λ e. omega (arith, to, e)))
      ],
      kept c k,
    )

  -- ---- replies, which come from the own node

  module _ (f : FlowEntry) (from : f.from ≡ link.node) where
    abbrev old : ℕ
    old = out_at d link.node

    abbrev own : ℕ
    own = out_at left (own_node d)

    abbrev reply : FlowEntry
    reply = from_own_node d f

    old_starts : out (ends_of d) f.from ≡ Some old
    old_starts = ap (out (ends_of d)) from ∙ found.starts ∙ ap Some (sym (out_is d link valid found))

    old_ends : end_of d old ≡ Some (Switch link.switch link.beside)
    old_ends = in_starts d link valid found

    own_ends : end_of left own ≡ Some (Switch link.switch link.port)
    own_ends = ap (end_of left) (own_out d link valid found) ∙ own_end d link valid found

    -- no step leads to the channel out of a node
    not_old : (b k e m : ℕ) → Follows d f b k e m → e ≢ old
    not_old b k e m h same =
        not_switch link.node h.switch h.named.port
        (sym (node_starts (wiring_of d) link.node old (ap (out (ends_of d)) (sym from) ∙ old_starts)) ∙ ap (slice_get (ends_of d)) (sym same) ∙ step_starts d f b k e m h)

    replies_kept : (b k : ℕ) → IsPlace d f b k → IsPlace left reply (instead old own b) k
    replies_kept b k (start at) =
        let same : b ≡ old = same_Some b old (sym at ∙ old_starts) in
        subst (λ x. IsPlace left reply x 0) (sym (own_out d link valid found) ∙ sym (instead_old old own b same)) (start (own_starts d link valid found))
    replies_kept c k (next {c = b} {k = j} p h) =
        let before = replies_kept b j p in
        subst (λ x. IsPlace left reply x k) (sym (instead_other old own c (not_old b j c k h)))
        (elim (cases_eq b old) [
          | inl same ↦
              let there = same_switch h.switch h.port link.switch link.beside (sym h.ends ∙ ap (end_of d) same ∙ old_ends) in
              next (subst (λ x. IsPlace left reply x j) (instead_old old own b same) before)
              (step_kept f reply b own j c k link.port h (own_ends ∙ ap (λ s. Some (Switch s link.port)) (sym there.0)) refl refl)
          | inr other ↦
              next (subst (λ x. IsPlace left reply x j) (instead_other old own b other) before)
              (step_kept f reply b b j c k h.port h (end_kept d link valid found b _ h.ends) refl refl)
        ])

    -- a place of it is for one that there was
    IsFor : ℕ → ℕ → Type 0
    IsFor c k = (b : ℕ) × IsPlace d f b k × (c ≡ instead old own b)

    replies_were : (c k : ℕ) → IsPlace left reply c k → IsFor c k ⊎ (c ≡ count + 1)
    unfolding IsFor
    replies_were c k (start at) =
        let same : c ≡ own = same_Some c count (sym at ∙ own_starts d link valid found) ∙ sym (own_out d link valid found) in
        inl (old, start old_starts, same ∙ sym (instead_old old own old refl))
    replies_were c k (next {c = a} {k = j} p h) =
        elim (replies_were a j p) [
          | inl was ↦
              let b : ℕ = was.0 in
              let place : IsPlace d f b j = was.1 in
              let stands : a ≡ instead old own b = was.2 in
              let at : end_of d b ≡ Some (Switch h.switch (if b == old then link.beside else h.port)) = elim (cases_eq b old) [
                | inl same ↦
                    let there = same_switch h.switch h.port link.switch link.port (sym h.ends ∙ ap (end_of left) (stands ∙ instead_old old own b same) ∙ own_ends) in
                    ap (end_of d) same ∙ old_ends ∙ ap (λ s. Some (Switch s link.beside)) (sym there.0) ∙ ap (λ (t : Bool). Some (Switch h.switch (if t then link.beside else h.port))) (sym (eq-eqb b old same))
                | inr other ↦
                    end_was d link valid found b _ (places_are_in d f b j place).0 (ap (end_of left) (sym (stands ∙ instead_other old own b other)) ∙ h.ends)
                    ∙ ap (λ (t : Bool). Some (Switch h.switch (if t then link.beside else h.port))) (sym (ne_eqb b old other))
              ] in
              elim (step_was f reply b a j c k _ h at refl refl) [
                | inl step ↦ inl (c, next place step, sym (instead_other old own c (not_old b j c k step)))
                | inr new ↦ inr new
              ]
          | inr new ↦ absurd (none_behind reply j c k (subst (λ x. Follows left reply x j c k) new h))
        ]

    pub replies_instead : f.to < own_node d → IsWellRouted left reply → GoesInstead d f old left reply own
    unfolding IsFor
    replies_instead to well c k = (
      λ p. elim (replies_were c k p) [
        | inl was ↦ was
        | inr new ↦ absurd (elsewhere left reply (count + 1) k (own_node d) well (subst (λ x. IsPlace left reply x k) new p) (back_end d link valid found) (λ e. omega (arith, to, e)))
      ],
      λ was. subst (λ x. IsPlace left reply x k) (sym was.2) (replies_kept was.0 k was.1),
    )

  -- ---- commands, which go to the own node

  module _ (f : FlowEntry) (last : ℕ) (from : f.from < own_node d) (comes : ComesByPort d link f last) (well : IsWellRouted left (to_own_node d link f last)) where
    abbrev command : FlowEntry
    command = to_own_node d link f last

    abbrev in_old : ℕ
    in_old = in_at d link.node

    abbrev in_own : ℕ
    in_own = in_at left (own_node d)

    last_there : last < length f.address
    last_there = slice_get_within f.address last link.beside comes.named

    look_before : (s k : ℕ) → k ≡ last → look_after d f s k ≡ path_look link.beside
    look_before s k is =
        ap (λ byte. look_of (routes_of d.switches s) byte) (ap (slice_index f.address) is ∙ get_or_from_slice_get f.address last link.beside 0 comes.named)
        ∙ table_path (routes_of d.switches s) link.beside (beside_low d link valid found)

    look_now : (s k : ℕ) → k ≡ last → look_after left command s k ≡ path_look link.port
    look_now s k is =
        ap (λ byte. look_of (routes_of d.switches s) byte) (ap (slice_index command.address) is ∙ get_or-set_same f.address last link.port 0 last_there)
        ∙ table_path (routes_of d.switches s) link.port low

    -- the step by the port's byte
    at_last : (c k e m : ℕ) → k ≡ last → IsPlace d f c k → Follows d f c k e m → (e ≡ in_old) × (m ≡ k + 1)
    at_last c k e m is p h =
        let there = comes.there c (subst (IsPlace d f c) is p) in
        let here = same_switch h.switch h.port link.switch there.0 (sym h.ends ∙ there.1) in
        let look = look_before h.switch k is in
        let port : h.named.port ≡ link.beside = (pow_members link.beside h.named.port).0 (subst (λ (l : Look). IsBitSet l.ports h.named.port) look h.named.named) in (
          same_Some e in_old (sym h.named.linked ∙ (λ t. out_of (ends_of d) (here.0 t) (port t)) ∙ in_linked d link valid found),
          h.deleted ∙ ap (λ (l : Look). deleted_behind l k) look,
        )

    from_old : (k e m : ℕ) → Follows d f in_old k e m → ⊥
    from_old k e m h = not_switch link.node h.switch h.port (sym (node_ends d link valid found) ∙ h.ends)

    few : (c k : ℕ) → IsPlace d f c k → (k ≤ last) ⊎ ((c ≡ in_old) × (k ≡ last + 1))
    few c k (start at) = inl (omega arith)
    few c k (next {c = b} {k = j} p h) =
        elim (few b j p) [
          | inl le ↦
              elim (cases_eq j last) [
                | inl is ↦ let step = at_last b j c k is p h in inr (step.0, omega (arith, step.1, is))
                | inr other ↦ let one = few_more (look_after d f h.switch j).delete j in inl (omega (arith, le, other, one, h.deleted))
              ]
          | inr past ↦ absurd (from_old j c k (subst (λ x. Follows d f x j c k) past.0 h))
        ]

    step_early : (c k e m : ℕ) (h : Follows d f c k e m) → k ≢ last → Follows left command c k e m
    step_early c k e m h other = step_kept f command c c k e m h.port h (end_kept d link valid found c _ h.ends) (own_length d link f last) (own_byte d link f last k other)

    early : (c k : ℕ) → IsPlace d f c k → k ≤ last → IsPlace left command c k
    early c k (start at) le = start (node_kept d link valid found f.from c at)
    early c k (next {c = b} {k = j} p h) le =
        elim (few b j p) [
          | inl before ↦
              elim (cases_eq j last) [
                | inl is ↦ let step = at_last b j c k is p h in absurd (omega (arith, step.1, is, le))
                | inr other ↦ next (early b j p before) (step_early b j c k h other)
              ]
          | inr past ↦ absurd (from_old j c k (subst (λ x. Follows d f x j c k) past.0 h))
        ]

    not_there : (c k : ℕ) → IsPlace d f c k → k ≤ last → c ≢ in_old
    not_there c k p le same =
        let node : link.node < own_node d = node_low d link valid found in
        elsewhere left command in_old k link.node well (subst (λ x. IsPlace left command x k) same (early c k p le)) (end_kept d link valid found in_old _ (node_ends d link valid found))
        (λ e. omega (arith, node, e))

    -- the last step
    last_step : (c k p : ℕ) → k ≡ last → end_of d c ≡ Some (Switch link.switch p) → Follows d f c k in_old (k + 1)
    last_step c k p is at = record {
      switch = link.switch;
      port = p;
      ends = at;
      bytes_left = omega (arith, is, last_there);
      named = record {
        port = link.beside;
        is_port = beside_low d link valid found;
        named = subst (λ (l : Look). IsBitSet l.ports link.beside) (sym (look_before link.switch k is)) ((pow_members link.beside link.beside).1 refl);
        linked = in_linked d link valid found;
      };
      deleted = sym (ap (λ (l : Look). deleted_behind l k) (look_before link.switch k is));
    }

    own_step : (c k p : ℕ) → k ≡ last → end_of d c ≡ Some (Switch link.switch p) → Follows left command c k in_own (k + 1)
    own_step c k p is at = record {
      switch = link.switch;
      port = p;
      ends = end_kept d link valid found c _ at;
      bytes_left = omega (arith, is, last_there, own_length d link f last);
      named = record {
        port = link.port;
        is_port = low;
        named = subst (λ (l : Look). IsBitSet l.ports link.port) (sym (look_now link.switch k is)) ((pow_members link.port link.port).1 refl);
        linked = own_port d link valid found free ∙ ap Some (sym (own_in d link valid found));
      };
      deleted = sym (ap (λ (l : Look). deleted_behind l k) (look_now link.switch k is));
    }

    past_last : (c k : ℕ) → IsPlace d f c k → last < k → (c ≡ in_old) × IsPlace left command in_own k
    past_last c k (start at) lt = absurd (omega (arith, lt))
    past_last c k (next {c = b} {k = j} p h) lt =
        elim (few b j p) [
          | inl le ↦
              elim (cases_eq j last) [
                | inl is ↦
                    let step = at_last b j c k is p h in
                    let there = comes.there b (subst (IsPlace d f b) is p) in
                    (step.0, subst (IsPlace left command in_own) (sym step.1) (next (early b j p le) (own_step b j there.0 is there.1)))
                | inr other ↦ let one = few_more (look_after d f h.switch j).delete j in absurd (omega (arith, le, other, one, h.deleted, lt))
              ]
          | inr past ↦ absurd (from_old j c k (subst (λ x. Follows d f x j c k) past.0 h))
        ]

    commands_kept : (c k : ℕ) → IsPlace d f c k → IsPlace left command (instead in_old in_own c) k
    commands_kept c k p =
        elim (cases_lt last k) [
          | inl past ↦ let there = past_last c k p past in subst (λ x. IsPlace left command x k) (sym (instead_old in_old in_own c there.0)) there.1
          | inr le ↦ subst (λ x. IsPlace left command x k) (sym (instead_other in_old in_own c (not_there c k p le))) (early c k p le)
        ]

    -- where the byte of the own port leads
    to_own : (c k e m : ℕ) (h : Follows left command c k e m) → k ≡ last → h.switch ≡ link.switch → (e ≡ in_own) × (m ≡ k + 1)
    to_own c k e m h is here =
        let look = look_now h.switch k is in
        let port : h.named.port ≡ link.port = (pow_members link.port h.named.port).0 (subst (λ (l : Look). IsBitSet l.ports h.named.port) look h.named.named) in (
          same_Some e (count + 1) (sym h.named.linked ∙ (λ t. out_of (ends_of left) (here t) (port t)) ∙ own_port d link valid found free) ∙ sym (own_in d link valid found),
          h.deleted ∙ ap (λ (l : Look). deleted_behind l k) look,
        )

    commands_were : (c k : ℕ) → IsPlace left command c k → (b : ℕ) × IsPlace d f b k × (c ≡ instead in_old in_own b)
    commands_were c k (start at) =
        let place : IsPlace d f c 0 = start (node_was d link valid found f.from c from at) in
        (c, place, sym (instead_other in_old in_own c (not_there c 0 place (omega arith))))
    commands_were c k (next {c = a} {k = j} q h) =
        let was = commands_were a j q in
        let b : ℕ = was.0 in
        let place : IsPlace d f b j = was.1 in
        elim (few b j place) [
          | inl le ↦
              let same : a ≡ b = was.2 ∙ instead_other in_old in_own b (not_there b j place le) in
              let at : end_of d b ≡ Some (Switch h.switch h.port) = end_was d link valid found b _ (places_are_in d f b j place).0 (ap (end_of left) (sym same) ∙ h.ends) in
              elim (cases_eq j last) [
                | inl is ↦
                    let there = comes.there b (subst (IsPlace d f b) is place) in
                    let here = same_switch h.switch h.port link.switch there.0 (sym at ∙ there.1) in
                    let own = to_own a j c k h is here.0 in
                    (in_old, subst (IsPlace d f in_old) (sym own.1) (next place (last_step b j there.0 is there.1)), own.0 ∙ sym (instead_old in_old in_own in_old refl))
                | inr other ↦
                    elim (step_was f command b a j c k h.port h at (own_length d link f last) (own_byte d link f last j other)) [
                      | inl step ↦
                          let now : IsPlace d f c k = next place step in
                          let one = few_more (look_after d f step.switch j).delete j in
                          (c, now, sym (instead_other in_old in_own c (not_there c k now (omega (arith, le, other, one, step.deleted)))))
                      | inr new ↦
                          let one = few_more (look_after left command h.switch j).delete j in
                          absurd (other_left left command (count + 1) k well (subst (λ x. IsPlace left command x k) new (next q h)) (back_end d link valid found)
                          (λ e. omega (arith, le, other, one, h.deleted, e, own_length d link f last, comes.deleted)))
                    ]
              ]
          | inr past ↦
              let new : a ≡ count + 1 = was.2 ∙ instead_old in_old in_own b past.0 ∙ own_in d link valid found in
              absurd (none_behind command j c k (subst (λ x. Follows left command x j c k) new h))
        ]

    pub commands_instead : GoesInstead d f in_old left command in_own
    commands_instead c k = (commands_were c k, λ was. subst (λ x. IsPlace left command x k) (sym was.2) (commands_kept was.0 k was.1))
