-- Commands that are delivered before a split and behind it come to the node by its port.
use Rattle.std.proofs.Common.{◌≡◌, ◌≢◌, ◌⊎◌, ℕ, ◌+◌, ◌-◌, ◌<◌, ◌≤◌, Bool, true, false, List, length, Some, None, is_some, ap, arith, inl, inr, refl, subst, sym, ◌∙◌, eq-eqb}
use Rattle.std.specs.Prelude.{◌==◌, IsBitSet, slice_get, slice_index_or, slice_set, if◌then◌else◌}
use Rattle.std.specs.Option.{option_map_or}
use Rattle.std.proofs.lemmas.Bool.{and_parts, cases_eq, cases_lt, eqb-true, le-ltb, lt-ltb, ne_eqb}
use Rattle.std.proofs.lemmas.List.{get_or-set_same}
use Rattle.std.proofs.lemmas.Option.{get_or_from_slice_get, same_Some, slice_get_cases, slice_get_within}
use Rattle.sw_topo.specs.declared.place.PlaceEnd.{PlaceEnd}
use Rattle.sw_topo.specs.declared.place.PlaceEnd.TheVariants.{Node, Switch}
use Rattle.sw_topo.specs.Wiring.{out_of, partner}
use Rattle.sw_topo.specs.Checked.{IsIn}
use Rattle.sw_topo.proofs.Ends.{node_only, port_starts}
use Rattle.sw_topo.proofs.Lists.{at_front}
use Rattle.sw_route.specs.declared.look.Look.{Look}
use Rattle.sw_route.specs.Looks.{NamesOutput, look_of, path_look}
use Rattle.sw_route.specs.Laws.{table_path}
use Rattle.sw_config.specs.Entries.{FlowEntry, Declaration, reply_flows, routes_of, wiring_of}
use Rattle.sw_config.specs.Valid.{IsFlow, IsValid}
use Rattle.sw_config.proofs.Flows.{All-at}
use Rattle.sw_flow.specs.Places.{Follows, IsPlace, deleted_behind, end_of, ends_of, look_after}
use Rattle.sw_flow.specs.Places.IsPlace.{start, next}
use Rattle.sw_flow.specs.Faults.{IsWellRouted}
use Rattle.sw_flow.proofs.Faulty.{faultless_go_on}
use Rattle.sw_flow.proofs.Partners.{partner_within}
use Rattle.sw_flow.proofs.Stepping.{places_are_in}
use Rattle.sw_mend.specs.Splits.{flow_moved, flow_split, last_deleted, renamed, split}
use Rattle.sw_mend.specs.SplitLaws.{CanArrive, ComesByPort, DeliveredComeByPort, IsDelivered, in_at, own_node, to_own_node}
use Rattle.sw_mend.specs.SplitLaws.CanArrive.{there, goes}
use Rattle.sw_mend.specs.declared.change.TargetLink.{TargetLink}
use Rattle.sw_mend.proofs.SplitLinks.{IsFound, found_in}
use Rattle.sw_mend.proofs.OneLinkMore.{beside_low, end_kept, end_was, even, in_starts, node_ends, node_kept, node_low, not_switch, own_end, port_kept, port_was, same_switch, start_within}
use Rattle.sw_mend.proofs.SplitPlaces.{elsewhere, other_left, own_byte, own_length, step_kept, step_starts}
use Rattle.sw_mend.proofs.SplitFlows.{declared_at, flow_in, free, low}

-- ---- steps and arrivals

-- no fewer bytes are deleted behind a switch
no_fewer : (b : Bool) (k : ℕ) → k ≤ (if b then k + 1 else k)
no_fewer true k = omega arith
no_fewer false k = omega arith

module _ (d : Declaration) (f : FlowEntry) where
  -- a step to the flow's end, from a place with k or more bytes deleted
  pub record LastStep (k : ℕ) : Type 0 where
    pub channel : ℕ
    pub deleted : ℕ
    pub place : IsPlace d f channel deleted
    pub to : ℕ
    pub left : ℕ
    pub step : Follows d f channel deleted to left
    pub ends : end_of d to ≡ Some (Node f.to)
    pub no_less : k ≤ deleted

  -- a place is at the end, or some step leads there
  last_step_from : (c k : ℕ) → IsPlace d f c k → CanArrive d f c k → (end_of d c ≡ Some (Node f.to)) ⊎ LastStep k
  last_step_from c k place (there at) = inl at
  last_step_from c k place (goes {e = e} {m = m} h more) =
      let least = no_fewer (look_after d f h.switch k).delete k in
      elim (last_step_from e m (next place h) more) [
        | inl at ↦ inr (record { channel = c; deleted = k; place = place; to = e; left = m; step = h; ends = at; no_less = omega arith })
        | inr last ↦
            let low = last.no_less in
            let rise = h.deleted in
            inr (record { channel = last.channel; deleted = last.deleted; place = last.place; to = last.to; left = last.left; step = last.step; ends = last.ends; no_less = omega (arith, low, rise, least) })
      ]

  -- some place is at the end
  at_end_from : (c k : ℕ) → IsPlace d f c k → CanArrive d f c k → (e m : ℕ) × IsPlace d f e m × (end_of d e ≡ Some (Node f.to))
  at_end_from c k place (there at) = (c, k, place, at)
  at_end_from c k place (goes {e = e} {m = m} h more) = at_end_from e m (next place h) more

  -- there as many bytes are deleted as are to be
  as_many : IsWellRouted d f → f.left ≤ length f.address → (c k : ℕ) → IsPlace d f c k → end_of d c ≡ Some (Node f.to) → length f.address ≡ f.left + k
  as_many well few c k place at =
      let within = (places_are_in d f c k place).1 in
      elim (cases_eq (length f.address - k) f.left) [
        | inl same ↦ omega (arith, same, within)
        | inr other ↦ absurd (other_left d f c k well place at other)
      ]

module _ (d : Declaration) (link : TargetLink) (valid : IsValid d) (found : IsFound d link) where
  abbrev left : Declaration
  left = split d link

  abbrev count : ℕ
  count = length (ends_of d)

  abbrev in_old : ℕ
  in_old = in_at d link.node

  is_free : out_of (ends_of d) link.switch link.port ≡ None
  is_free = free d link valid found

  is_low : link.port < 32
  is_low = low d link valid found

  -- the channels that end at the node and at the own node
  only_old : (c : ℕ) → end_of d c ≡ Some (Node link.node) → c ≡ in_old
  only_old c at =
      let only = node_only (wiring_of d) valid.sound link.node (node_low d link valid found) in
      (only.1).ends.alone c at ∙ sym ((only.1).ends.alone in_old (node_ends d link valid found))

  only_own : (c : ℕ) → end_of left c ≡ Some (Node (own_node d)) → c ≡ count + 1
  only_own c at =
      let within : partner c < count + 2 = start_within d link valid found (partner c) (Node (own_node d)) at in
      elim (cases_lt c count) [
        | inl lt ↦
            let inside : own_node d < own_node d =
            All-at (IsIn (length d.nodes) (length d.switches)) (ends_of d) (partner c) (Node (own_node d)) (end_was d link valid found c _ lt at) valid.sound.wiring.inside in
            absurd (omega (arith, inside))
        | inr past ↦
            elim (cases_eq c count) [
              | inl first ↦ absurd (not_switch (own_node d) link.switch link.port (sym at ∙ ap (end_of left) first ∙ own_end d link valid found))
              | inr other ↦
                  elim (cases_eq c (count + 1)) [
                    | inl second ↦ second
                    | inr more ↦ absurd (later c past other more within)
                  ]
            ]
      ]
    where
      later : (c : ℕ) → count ≤ c → c ≢ count → c ≢ count + 1 → partner c < count + 2 → ⊥
      later c past other more within = grind (arith, even d link valid found)

  -- only ports of the switch lead to the own node
  only_switch : (s p : ℕ) → out_of (ends_of left) s p ≡ Some (count + 1) → s ≡ link.switch
  only_switch s p is =
      elim (port_was d link valid found s p (count + 1) is) [
        | inl old ↦ let within = slice_get_within (ends_of d) (count + 1) _ (port_starts (wiring_of d) s p (count + 1) old) in absurd (omega (arith, within))
        | inr new ↦ new.1
      ]

  module _ (f : FlowEntry) (flow : IsFlow d.nodes f) (to : f.to ≡ link.node) (before : IsDelivered d f) where
    -- the flow starts somewhere
    begins : (c : ℕ) × IsPlace d f c 0
    begins = let only = node_only (wiring_of d) valid.sound f.from flow.from in (only.0, start (only.1).first)

    -- where nothing of the address changes the packets still come to the node
    module _ (behind : IsDelivered left (record f { to = own_node d })) where
      also : (c k : ℕ) → IsPlace d f c k → IsPlace left (record f { to = own_node d }) c k
      also c k (start at) = start (node_kept d link valid found f.from c at)
      also c k (next {c = b} {k = j} p h) =
          next (also b j p) (step_kept d link valid found is_free is_low f (record f { to = own_node d }) b b j c k h.port h (end_kept d link valid found b _ h.ends) refl refl)

      pub unchanged : ⊥
      unchanged =
          let first = begins in
          let end = at_end_from d f first.0 0 first.1 (before.arrives first.0 0 first.1) in
          let node = node_low d link valid found in
          elsewhere left (record f { to = own_node d }) end.0 end.1 link.node behind.routed (also end.0 end.1 end.2) (end_kept d link valid found end.0 _ (end.3 ∙ ap (λ n. Some (Node n)) to))
          (λ e. omega (arith, node, e))

    module _ (last : ℕ) (size_is : length f.address ≡ f.left + last + 1) (named : slice_get f.address last ≡ Some link.beside) (behind : IsDelivered left (to_own_node d link f last)) where
      abbrev command : FlowEntry
      command = to_own_node d link f last

      last_there : last < length f.address
      last_there = slice_get_within f.address last link.beside named

      look_before : (s : ℕ) → look_after d f s last ≡ path_look link.beside
      look_before s =
          ap (λ byte. look_of (routes_of d.switches s) byte) (get_or_from_slice_get f.address last link.beside 0 named)
          ∙ table_path (routes_of d.switches s) link.beside (beside_low d link valid found)

      look_now : (s : ℕ) → look_after left command s last ≡ path_look link.port
      look_now s =
          ap (λ byte. look_of (routes_of d.switches s) byte) (get_or-set_same f.address last link.port 0 last_there)
          ∙ table_path (routes_of d.switches s) link.port is_low

      early : (c k : ℕ) → IsPlace d f c k → k ≤ last → IsPlace left command c k
      early c k (start at) le = start (node_kept d link valid found f.from c at)
      early c k (next {c = b} {k = j} p h) le =
          let least = no_fewer (look_after d f h.switch j).delete j in
          let rise = h.deleted in
          elim (cases_eq j last) [
            | inl is ↦
                let past : k ≡ j + 1 = rise ∙ ap (λ n. deleted_behind (look_after d f h.switch n) j) is ∙ ap (λ (l : Look). deleted_behind l j) (look_before h.switch) in
                absurd (omega (arith, past, is, le))
            | inr other ↦
                next (early b j p (omega (arith, least, rise, le)))
                (step_kept d link valid found is_free is_low f command b b j c k h.port h (end_kept d link valid found b _ h.ends) (own_length d link f last) (own_byte d link f last j other))
          ]

      -- Were a packet at another switch with the byte that names the port: what is left of the address would lead it from the node's switch to the node,
      -- before and behind the split.
      module _ (c s p : ℕ) (place : IsPlace d f c last) (at : end_of d c ≡ Some (Switch s p)) (other : s ≢ link.switch) where
        names_old : NamesOutput (ends_of d) link.switch (look_after d f link.switch (last + 1)) in_old
        names_old =
            elim (faultless_go_on d f c last (Switch s p) at (before.routed c last place)) [
              | inl goes_on ↦
                  let e : ℕ = goes_on.0 in
                  let m : ℕ = goes_on.1 in
                  let h : Follows d f c last e m = goes_on.2 in
                  let here = (same_switch h.switch h.port s p (sym h.ends ∙ at)).0 in
                  let many : m ≡ last + 1 = h.deleted ∙ ap (λ (l : Look). deleted_behind l last) (look_before h.switch) in
                  let after : IsPlace d f e m = next place h in
                  elim (last_step_from d f e m after (before.arrives e m after)) [
                    | inl ends ↦
                        let same : e ≡ in_old = only_old e (ends ∙ ap (λ n. Some (Node n)) to) in
                        let starts = same_switch h.switch h.named.port link.switch link.beside (sym (step_starts d f c last e m h) ∙ ap (slice_get (ends_of d)) same ∙ in_starts d link valid found) in
                        absurd (other (sym here ∙ starts.0))
                    | inr l ↦
                        let step = l.step in
                        let same : l.to ≡ in_old = only_old l.to (l.ends ∙ ap (λ n. Some (Node n)) to) in
                        let starts = same_switch step.switch step.named.port link.switch link.beside (sym (step_starts d f l.channel l.deleted l.to l.left step) ∙ ap (slice_get (ends_of d)) same ∙ in_starts d link valid found) in
                        let all = as_many d f before.routed flow.left l.to l.left (next l.place step) l.ends in
                        let least = no_fewer (look_after d f step.switch l.deleted).delete l.deleted in
                        let deleted : l.deleted ≡ last + 1 = omega (arith, all, size_is, least, step.deleted, l.no_less, many) in
                        subst (λ x. NamesOutput (ends_of d) link.switch (look_after d f link.switch (last + 1)) x) same
                        (subst (λ k. NamesOutput (ends_of d) link.switch (look_after d f link.switch k) l.to) deleted
                        (subst (λ w. NamesOutput (ends_of d) w (look_after d f w l.deleted) l.to) starts.0 step.named))
                  ]
              | inr ended ↦ let never = ended.0 in absurd cc
            ]

        comes_there : (a : ℕ) × (q : ℕ) × IsPlace left command a (last + 1) × (end_of left a ≡ Some (Switch link.switch q)) × (last + 1 < length command.address)
        comes_there =
            let now : IsPlace left command c last = early c last place (omega arith) in
            let ends_now : end_of left c ≡ Some (Switch s p) = end_kept d link valid found c _ at in
            elim (faultless_go_on left command c last (Switch s p) ends_now (behind.routed c last now)) [
              | inl goes_on ↦
                  let e : ℕ = goes_on.0 in
                  let m : ℕ = goes_on.1 in
                  let h : Follows left command c last e m = goes_on.2 in
                  let here = (same_switch h.switch h.port s p (sym h.ends ∙ ends_now)).0 in
                  let many : m ≡ last + 1 = h.deleted ∙ ap (λ (l : Look). deleted_behind l last) (look_now h.switch) in
                  let after : IsPlace left command e m = next now h in
                  elim (last_step_from left command e m after (behind.arrives e m after)) [
                    | inl ends ↦ absurd (other (sym here ∙ only_switch h.switch h.named.port (h.named.linked ∙ ap Some (only_own e ends))))
                    | inr l ↦
                        let step = l.step in
                        let switch : step.switch ≡ link.switch = only_switch step.switch step.named.port (step.named.linked ∙ ap Some (only_own l.to l.ends)) in
                        let all = as_many left command behind.routed (omega (arith, own_length d link f last, flow.left)) l.to l.left (next l.place step) l.ends in
                        let least = no_fewer (look_after left command step.switch l.deleted).delete l.deleted in
                        let deleted : l.deleted ≡ last + 1 = omega (arith, all, own_length d link f last, size_is, least, step.deleted, l.no_less, many) in (
                          l.channel,
                          step.port,
                          subst (IsPlace left command l.channel) deleted l.place,
                          step.ends ∙ ap (λ w. Some (Switch w step.port)) switch,
                          omega (arith, deleted, step.bytes_left),
                        )
                  ]
              | inr ended ↦ let never = ended.0 in absurd cc
            ]

        never_there : ⊥
        never_there =
            let o = comes_there in
            let n = names_old in
            let look : look_after left command link.switch (last + 1) ≡ look_after d f link.switch (last + 1) =
            ap (λ byte. look_of (routes_of d.switches link.switch) byte) (own_byte d link f last (last + 1) (λ e. omega (arith, e))) in
            let step : Follows left command o.0 (last + 1) in_old (deleted_behind (look_after left command link.switch (last + 1)) (last + 1)) = record {
              switch = link.switch;
              port = o.1;
              ends = o.3;
              bytes_left = o.4;
              named = record {
                port = n.port;
                is_port = n.is_port;
                named = subst (λ (l : Look). IsBitSet l.ports n.port) (sym look) n.named;
                linked = port_kept d link valid found link.switch n.port in_old n.linked;
              };
              deleted = refl;
            } in
            let node = node_low d link valid found in
            elsewhere left command in_old _ link.node behind.routed (next o.2 step) (end_kept d link valid found in_old _ (node_ends d link valid found)) (λ e. omega (arith, node, e))

      at_switch : (c : ℕ) (e : PlaceEnd) → IsPlace d f c last → end_of d c ≡ Some e → (port : ℕ) × (end_of d c ≡ Some (Switch link.switch port))
      at_switch c (Node n) place at =
          elim (cases_eq n f.to) [
            | inl same ↦
                let all = as_many d f before.routed flow.left c last place (at ∙ ap (λ m. Some (Node m)) same) in
                absurd (omega (arith, all, size_is))
            | inr other ↦ absurd (elsewhere d f c last n before.routed place at other)
          ]
      at_switch c (Switch s p) place at =
          elim (cases_eq s link.switch) [
            | inl same ↦ (p, at ∙ ap (λ w. Some (Switch w p)) same)
            | inr other ↦ absurd (never_there c s p place at other)
          ]

      pub by_port : ComesByPort d link f last
      by_port = record {
        deleted = size_is;
        named = named;
        there = λ c place. elim (slice_get_cases (ends_of d) (partner c)).1 [
          | inl end ↦ at_switch c end.0 place end.2
          | inr past ↦ let within = partner_within d c (places_are_in d f c last place).0 in absurd (omega (arith, within, past.0))
        ];
      }

    -- ---- whether the last byte that is deleted names the port

    module _ (behind : IsDelivered left (flow_moved (own_node d) link f)) where
      not_named : (address : List ℕ) → address ≡ f.address → flow_moved (own_node d) link f ≡ record f { to = own_node d; address = address } → ⊥
      not_named address same is =
          unchanged (subst (IsDelivered left) (is ∙ ap (λ (l : List ℕ). record f { to = own_node d; address = l }) same) behind)

      place_of_last : (k : ℕ) → last_deleted f ≡ Some k → flow_moved (own_node d) link f ≡ record f { to = own_node d; address = renamed link.beside link.port f.address k }
      place_of_last k is = λ t. record f { to = own_node d; address = option_map_or (renamed link.beside link.port f.address) (is t) f.address }

      pub some_last : (last : ℕ) × ComesByPort d link f last
      some_last =
          elim (cases_lt f.left (length f.address)) [
            | inr all ↦
                let none : last_deleted f ≡ None = ap (λ (b : Bool). if b then Some (length f.address - f.left - 1) else None) (le-ltb f.left (length f.address) all) in
                absurd (not_named f.address refl (λ t. record f { to = own_node d; address = option_map_or (renamed link.beside link.port f.address) (none t) f.address }))
            | inl fewer ↦
                let last : ℕ = length f.address - f.left - 1 in
                let some : last_deleted f ≡ Some last = ap (λ (b : Bool). if b then Some last else None) (lt-ltb f.left (length f.address) fewer) in
                elim (cases_eq (slice_index_or f.address last 0) link.beside) [
                  | inr other ↦
                      absurd (not_named (renamed link.beside link.port f.address last)
                      (ap (λ (b : Bool). if b then slice_set f.address last link.port else f.address) (ne_eqb (slice_index_or f.address last 0) link.beside other))
                      (place_of_last last some))
                  | inl same ↦
                      let byte : renamed link.beside link.port f.address last ≡ slice_set f.address last link.port =
                      ap (λ (b : Bool). if b then slice_set f.address last link.port else f.address) (eq-eqb (slice_index_or f.address last 0) link.beside same) in
                      let moved : flow_moved (own_node d) link f ≡ to_own_node d link f last = place_of_last last some ∙ ap (λ (l : List ℕ). record f { to = own_node d; address = l }) byte in
                      let named : slice_get f.address last ≡ Some link.beside = elim (slice_get_cases f.address last).1 [
                        | inl here ↦ here.2 ∙ ap Some (sym (get_or_from_slice_get f.address last here.0 0 here.2) ∙ same)
                        | inr past ↦ absurd (omega (arith, past.0, fewer))
                      ] in
                      (last, by_port last (omega (arith, fewer)) named (subst (IsDelivered left) moved behind))
                ]
          ]

pub delivered_come_by_port : DeliveredComeByPort
delivered_come_by_port d link valid here number f g at answered before at_g behind =
    let found = found_in d link here in
    let flow = flow_in d link valid found number f (at_front d.flows (reply_flows d.flows) number f at) in
    let to : f.to ≡ link.node = eqb-true f.to link.node (and_parts (is_some f.reply) (f.to == link.node) answered).1 in
    let moved : g ≡ flow_moved (own_node d) link f =
    same_Some g (flow_split (own_node d) link f) (sym at_g ∙ declared_at d link number f at) ∙ ap (λ (b : Bool). if b then flow_moved (own_node d) link f else f) answered in
    some_last d link valid found f flow to before (subst (IsDelivered (split d link)) moved behind)
