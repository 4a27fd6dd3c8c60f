-- The places that follow a place, as a walk over ports gives them.
use Rattle.std.proofs.Common.{◌≡◌, ℕ, ◌+◌, ◌*◌, ◌/◌, ◌%◌, ◌^◌, ◌==◌, ◌<◌, ◌≤◌, Bool, false, IsTrue, cond, not, Option, Some, None, List, [], ◌∷◌, ◌++◌, append-nil, length, get_or, map, filter, filter_map, is_some, bit_and, Contains, refl, sym, ap, ◌∙◌, subst, ◌⊎◌, inl, inr, arith}
use Rattle.std.specs.Prelude.{MatchOption, ◌↔◌, slice_get, slice_index}
use Rattle.std.specs.List.{range_with_len, cons_option}
use Rattle.std.proofs.lemmas.Bool.{cases_Bool, cases_lt, lt-ltb, le-ltb}
use Rattle.std.proofs.lemmas.Option.{get_or_from_slice_get, slice_get_read}
use Rattle.sw_config.specs.PlaceEnd.{PlaceEnd}
use Rattle.sw_config.specs.PlaceEnd.TheVariants.{Node, Switch}
use Rattle.sw_config.specs.Wiring.{Wiring, out_of, partner}
use Rattle.sw_config.specs.Looks.{NamesOutput}
use Rattle.sw_config.specs.Ports.{ports_of}
use Rattle.sw_config.specs.Look.{Look}
use Rattle.sw_config.specs.Entries.{FlowEntry, Declaration, look_at, wiring_of}
use Rattle.sw_flow.specs.declared.place.Place.{Place}
use Rattle.sw_flow.specs.Places.{ends_of, end_of, look_after, deleted_behind, Follows}
use Rattle.sw_flow.specs.Followers.{outputs_of, places_on, followers_at_switch, followers_at_end, followers_of}
use Rattle.sw_flow.specs.Numbers.{width, place_of, outputs, next_at_end, next_numbers}
use Rattle.sw_flow.specs.Faults.{has_output}
use Rattle.sw_flow.specs.Laws.{FollowersAreListed}
use Rattle.sw_flow.proofs.Listed.{Contains-head, Contains-map, Contains-from_map}
use Rattle.sw_flow.proofs.Outputs.{has_output-from_names, names-from_has_output, outputs_are}

-- what h gives of those that fail the test
left_out : {X Y : Type 0} (test : X → Bool) (h : X → Option Y) (xs : List X) → filter_map (λ x. cond (test x) None (h x)) xs ≡ filter_map h (filter (λ x. not (test x)) xs)
left_out test h [] = refl
left_out test h (x ∷ xs) =
    elim (cases_Bool (test x)) [
      | inl out ↦ rw out (left_out test h xs)
      | inr in_set ↦ rw in_set (ap (cons_option (h x)) (left_out test h xs))
    ]

-- the channels that a look names are those of its ports
pub outputs_by_ports : (ends : List PlaceEnd) (s : ℕ) (look : Look) → outputs ends s look ≡ outputs_of ends s look.ports
unfolding outputs ports_of
outputs_by_ports ends s look = left_out (λ p. bit_and look.ports (2 ^ p) == 0) (out_of ends s) (range_with_len 0 32)

module _ (d : Declaration) (f : FlowEntry) where
  follows_at : (c k s q : ℕ) (p : Place) → end_of d c ≡ Some (Switch s q) → Contains (followers_at_switch d f s k) p → Follows d f c k p.channel p.deleted
  follows_at c k s q p at h = by (cases_lt k (length f.address))
    where
      by : (k < length f.address) ⊎ (length f.address ≤ k) → Follows d f c k p.channel p.deleted
      by (inr le) = let none = rw (le-ltb k (length f.address) le) at h in absurd (omega (arith, none.1))
      by (inl lt) =
          let m = Contains-from_map (λ e. record { channel = e; deleted = deleted_behind (look_after d f s k) k }) (outputs_of (ends_of d) s (look_after d f s k).ports) p (rw (lt-ltb k (length f.address) lt) at h) in
          let named : Contains (outputs (ends_of d) s (look_after d f s k)) m.0 = rw (outputs_by_ports (ends_of d) s (look_after d f s k)) m.1 in
          let step : Follows d f c k m.0 (deleted_behind (look_after d f s k) k) =
          record { switch = s; port = q; ends = at; bytes_left = lt; named = (outputs_are (ends_of d) s (look_after d f s k) m.0).0 named; deleted = refl } in
          subst (λ (r : Place). Follows d f c k r.channel r.deleted) m.2 step

  follows : (c k : ℕ) (p : Place) (o : Option PlaceEnd) → end_of d c ≡ o → Contains (followers_at_end d f k o) p → Follows d f c k p.channel p.deleted
  follows c k p None at h = absurd (omega (arith, h.1))
  follows c k p (Some (Switch s q)) at h = follows_at c k s q p at h
  follows c k p (Some (Node n)) at h = absurd (omega (arith, h.1))

  is_listed : (c k : ℕ) (p : Place) → Follows d f c k p.channel p.deleted → Contains (followers_at_end d f k (end_of d c)) p
  is_listed c k p h =
      let look = look_after d f h.switch k in
      let named : Contains (outputs_of (ends_of d) h.switch look.ports) p.channel = rw (outputs_by_ports (ends_of d) h.switch look) at ((outputs_are (ends_of d) h.switch look p.channel).1 h.named) in
      let on : Contains (places_on (deleted_behind look k) (outputs_of (ends_of d) h.switch look.ports)) (record { channel = p.channel; deleted = deleted_behind look k }) =
      Contains-map (λ e. record { channel = e; deleted = deleted_behind look k }) (outputs_of (ends_of d) h.switch look.ports) p.channel named in
      rw (h.ends, lt-ltb k (length f.address) h.bytes_left) (subst (λ (m : ℕ). Contains (places_on (deleted_behind look k) (outputs_of (ends_of d) h.switch look.ports)) (record { channel = p.channel; deleted = m })) (sym h.deleted) on)

pub followers_are_listed : FollowersAreListed
unfolding followers_of
followers_are_listed d f c k p = (follows d f c k p (end_of d c) refl, is_listed d f c k p)

-- ---- the walk

map_twice : {X Y Z : Type 0} (g : Y → Z) (h : X → Y) (xs : List X) → map g (map h xs) ≡ map (λ x. g (h x)) xs
map_twice g h [] = refl
map_twice g h (x ∷ xs) = ap (λ l. g (h x) ∷ l) (map_twice g h xs)

-- the numbers of the followers are those that a step leads to
numbered : (d : Declaration) (f : FlowEntry) (k : ℕ) (o : Option PlaceEnd) → map (λ (p : Place). p.channel * width f + p.deleted) (followers_at_end d f k o) ≡ next_at_end d f k o
numbered d f k None = refl
numbered d f k (Some (Node n)) = refl
numbered d f k (Some (Switch s q)) = by (cases_lt k (length f.address))
  where
    by : (k < length f.address) ⊎ (length f.address ≤ k) → map (λ (p : Place). p.channel * width f + p.deleted) (followers_at_end d f k (Some (Switch s q))) ≡ next_at_end d f k (Some (Switch s q))
    by (inr le) = rw (le-ltb k (length f.address) le) refl
    by (inl lt) =
        let look = look_after d f s k in
        rw (lt-ltb k (length f.address) lt)
        (map_twice (λ (p : Place). p.channel * width f + p.deleted) (λ e. record { channel = e; deleted = deleted_behind look k }) (outputs_of (ends_of d) s look.ports)
        ∙ ap (map (λ e. e * width f + deleted_behind look k)) (sym (outputs_by_ports (ends_of d) s look)))

numbers_of_followers : (d : Declaration) (f : FlowEntry) (c k : ℕ) → map (λ (p : Place). p.channel * width f + p.deleted) (followers_of d f c k) ≡ next_at_end d f k (end_of d c)
unfolding followers_of
numbers_of_followers d f c k = numbered d f k (end_of d c)

-- the numbers as the code makes them
pub followers_numbered : (d : Declaration) (f : FlowEntry) (n : ℕ) (address : List ℕ) (place : Place) (followers : List Place) → address ≡ f.address
    → place ≡ record { channel = n / (length address + 1); deleted = n % (length address + 1) } → followers ≡ followers_of d f place.channel place.deleted
    → map (λ (p : Place). p.channel * (length address + 1) + p.deleted) followers ≡ next_numbers d f n
followers_numbered d f n address place followers same at so =
    let wide : length address + 1 ≡ width f = ap (λ (a : List ℕ). length a + 1) same in
    let here : place ≡ place_of f n = at ∙ ap (λ (w : ℕ). record { channel = n / w; deleted = n % w }) wide in
    let list : followers ≡ followers_of d f (n / width f) (n % width f) = so ∙ ap (λ (p : Place). followers_of d f p.channel p.deleted) here in
    ap (λ (w : ℕ). map (λ (p : Place). p.channel * w + p.deleted) followers) wide ∙ ap (map (λ (p : Place). p.channel * width f + p.deleted)) list ∙ numbers_of_followers d f (n / width f) (n % width f)

-- a place that is a port of two switches is one of one
pub same_switch : (s p t q : ℕ) → Some (Switch s p) ≡ Some (Switch t q) → s ≡ t
same_switch s p t q e = cc

pub same_port : (s p t q : ℕ) → Some (Switch s p) ≡ Some (Switch t q) → p ≡ q
same_port s p t q e = cc

pub no_port : (n t q : ℕ) → Some (Node n) ≡ Some (Switch t q) → ⊥
no_port n t q e = cc

pub untrue : IsTrue false → ⊥
untrue bad = absurd cc

-- ---- one step, with its parts as the code has them

-- what is looked up is what the leading byte names
look_is : (d : Declaration) (f : FlowEntry) (s k byte : ℕ) (address : List ℕ) (look : Look) → address ≡ f.address → k < length address → byte ≡ get_or address k byte → look ≡ look_at d.switches s byte → look ≡ look_after d f s k
look_is d f s k byte address look same lt read is =
    is
    ∙ ap (look_at d.switches s) (sym (get_or_from_slice_get address k byte 0 (slice_get_read address (length address) k byte refl lt read)))
    ∙ ap (λ (a : List ℕ). look_at d.switches s (slice_index a k)) same

module _ (d : Declaration) (f : FlowEntry) (w : Wiring) (c k s p byte : ℕ) (address : List ℕ) (look : Look) (wired : w ≡ wiring_of d) (at : slice_get w.ends (partner c) ≡ Some (Switch s p)) (same : address ≡ f.address) (lt : k < length address) (read : byte ≡ get_or address k byte) (is : look ≡ look_at d.switches s byte) where
  here : end_of d c ≡ Some (Switch s p)
  here = ap (λ (v : Wiring). slice_get v.ends (partner c)) (sym wired) ∙ at

  after : look ≡ look_after d f s k
  after = look_is d f s k byte address look same lt read is

  long : k < length f.address
  long = subst (λ (a : List ℕ). k < length a) same lt

  -- the followers as a walk over the look's ports
  pub walked_at_switch : (ports deleted : ℕ) → ports ≡ look.ports → deleted ≡ deleted_behind look k → places_on deleted (outputs_of w.ends s ports) ≡ followers_of d f c k
  unfolding followers_of
  walked_at_switch ports deleted all behind =
      rw (here, lt-ltb k (length f.address) long)
      (ap (λ (m : ℕ). places_on m (outputs_of w.ends s ports)) behind
      ∙ ap (λ (q : ℕ). places_on (deleted_behind look k) (outputs_of w.ends s q)) all
      ∙ ap (λ (v : Wiring). places_on (deleted_behind look k) (outputs_of v.ends s look.ports)) wired
      ∙ ap (λ (l : Look). places_on (deleted_behind l k) (outputs_of (ends_of d) s l.ports)) after)

  -- what follows is on a channel that the look names, with as many bytes deleted as are behind the switch
  pub steps_to : (e m behind : ℕ) → behind ≡ deleted_behind look k → Follows d f c k e m ↔ ((m ≡ behind) × NamesOutput w.ends s look e)
  steps_to e m behind counted = (
    λ h.
        let two : Some (Switch h.switch h.port) ≡ Some (Switch s p) = sym h.ends ∙ here in
        let one : h.switch ≡ s = same_switch h.switch h.port s p two in
        let names : NamesOutput (ends_of d) s (look_after d f s k) e = subst (λ (t : ℕ). NamesOutput (ends_of d) t (look_after d f t k) e) one h.named in (
          h.deleted ∙ ap (λ (t : ℕ). deleted_behind (look_after d f t k) k) one ∙ ap (λ (l : Look). deleted_behind l k) (sym after) ∙ sym counted,
          subst (λ (v : Wiring). NamesOutput v.ends s look e) (sym wired) (subst (λ (l : Look). NamesOutput (ends_of d) s l e) (sym after) names),
        ),
    λ n. record {
      switch = s;
      port = p;
      ends = here;
      bytes_left = long;
      named = subst (λ (l : Look). NamesOutput (ends_of d) s l e) after (subst (λ (v : Wiring). NamesOutput v.ends s look e) wired n.1);
      deleted = n.0 ∙ counted ∙ ap (λ (l : Look). deleted_behind l k) after;
    },
  )

-- once none is left, all that were to come are added
pub all_pushed : {A : Type 0} (f : A → ℕ) (to before : List ℕ) (left started : List A) (numbers : List ℕ) → to ++ map f left ≡ before ++ map f started → left ≡ [] → map f started ≡ numbers → to ≡ before ++ numbers
all_pushed f to before left started numbers so_far none all = sym (append-nil to) ∙ ap (λ l. to ++ map f l) (sym none) ∙ so_far ∙ ap (λ l. before ++ l) all

-- the first of the outputs tells whether there is one
pub has_output-by_first : (ends : List PlaceEnd) (s : ℕ) (look : Look) (o : Option ℕ) (rest : List ℕ) → MatchOption o (outputs_of ends s look.ports ≡ []) (λ c. outputs_of ends s look.ports ≡ c ∷ rest) → is_some o ≡ has_output ends s look
has_output-by_first ends s look None rest none = elim (cases_Bool (has_output ends s look)) [
  | inr unset ↦ sym unset
  | inl set ↦
      let n = names-from_has_output ends s look set in
      let listed : Contains [] n.0 = subst (λ (l : List ℕ). Contains l n.0) (outputs_by_ports ends s look ∙ none) ((outputs_are ends s look n.0).1 n.1) in
      absurd (let lt = listed.1 in omega arith)
]
has_output-by_first ends s look (Some c) rest some =
    let listed : Contains (outputs ends s look) c = subst (λ (l : List ℕ). Contains l c) (sym (outputs_by_ports ends s look ∙ some)) (Contains-head c rest) in
    sym (has_output-from_names ends s look c ((outputs_are ends s look c).0 listed))
