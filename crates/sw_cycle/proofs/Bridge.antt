-- The rows list the dependencies of the machine's network.
use Rattle.std.proofs.Common.{◌≡◌, ℕ, ◌<◌, ◌↔◌, Bool, true, List, [], ◌∷◌, filter_map, length, get_or, Option, Some, None, refl, sym, ap, ◌∙◌, subst, arith, inl, inr, Contains, All}
use Rattle.std.specs.Prelude.{IsSome, slice_get, slice_index, Vec, if◌then◌else◌}
use Rattle.std.specs.Option.{option_map, option_to_list}
use Rattle.std.specs.declared.alloc.Global.{Global}
use Rattle.std.proofs.lemmas.Bool.{cases_Bool}
use Rattle.std.proofs.lemmas.List.{get_or_default}
use Rattle.std.proofs.lemmas.List.Elements.{Contains-get_or}
use Rattle.std.proofs.lemmas.Option.{slice_get_within}
use Rattle.sw_topo.specs.declared.place.PlaceEnd.{PlaceEnd}
use Rattle.sw_topo.specs.declared.place.PlaceEnd.TheVariants.{Node, Switch}
use Rattle.sw_topo.specs.Wiring.{out, out_of, partner}
use Rattle.sw_topo.specs.Ports.{ports_of}
use Rattle.sw_topo.proofs.Ends.{node_only, partner_back}
use Rattle.sw_topo.proofs.PortWalk.{ports_listed}
use Rattle.sw_config.specs.Entries.{ReplyEntry, Declaration, all_flows, wiring_of}
use Rattle.sw_config.specs.Limits.{may_make_wait, waiting_marks}
use Rattle.sw_config.specs.Valid.{IsFlow, IsValid}
use Rattle.sw_config.proofs.AnsweringNodes.{answered_flow, answering_within, answers}
use Rattle.sw_config.proofs.Limits.{marked_waits, waiting_answers, waits_marked}
use Rattle.sw_config.proofs.Flows.{All-at}
use Rattle.sw_config.proofs.FlowLaws.{valid_flows}
use Rattle.sw_flow.specs.Places.{ends_of, end_of, look_after, deleted_behind}
use Rattle.sw_flow.specs.Places as declared
use Rattle.sw_flow.specs.Places.IsPlace.{next}
use Rattle.sw_flow.proofs.Listed.{Contains-filter_map, Contains-from_filter_map, Contains-head, Contains-cases}
use Rattle.sw_flow.proofs.Stepping.{places_are_in}
use Rattle.sw_machine.specs.Places.{AlwaysTakes, IsDependency}
use Rattle.sw_machine.specs.Places.IsDependency.{ByFlow, ByTarget}
use Rattle.sw_machine.specs.Model.{network_of, reply_number}
use Rattle.sw_machine.proofs.AlwaysTaking.{may_wait_unless, not_always_where}
use Rattle.sw_machine.proofs.Flows.{flow_at, flow_ends, some_at}
use Rattle.sw_machine.proofs.Steps.{steps_agree}
use Rattle.sw_machine.proofs.Topology.{into_ends, out_starts}
use Rattle.sw_graph.specs.Rows.{IsGraph, Leads, row}
use Rattle.sw_graph.proofs.Listed.{row_member, row_read}
use Rattle.sw_cycle.specs.Named.{AreNamed, IsNamed}
use Rattle.sw_graph.specs.Rounds.{is_marked}
use Rattle.sw_cycle.specs.Rows.{AreRows, row_at_end, row_of}
use Rattle.sw_topo.proofs.Lists.{none_in}
use Rattle.sw_cycle.proofs.Between.{has_reply}

replied_with : (n : ℕ) (o : Option ReplyEntry) → IsSome o → option_map (λ r. n) o ≡ Some n
replied_with n None h = absurd cc
replied_with n (Some r) h = refl

module _ (d : Declaration) (valid : IsValid d) where
  -- dependencies are between the network's channels
  within : (c e : ℕ) → IsDependency (network_of d) c e → (c < length (ends_of d)) × (e < length (ends_of d))
  unfolding network_of
  within x y (ByFlow i c k e m lt place follows) =
      let f = some_at (all_flows d) i lt in
      let same = steps_agree d valid i f.0 f.1 in
      let p = (same.place c k).0 place in
      let s = (same.step c k e m).0 follows in
      ((places_are_in d f.0 c k p).0, (places_are_in d f.0 e m (next p s)).0)
  within x y (ByTarget i j lt reply waits) =
      let to = (flow_ends d valid i lt).1 in
      ((into_ends (wiring_of d) valid.sound (flow_at d i).to to).0, (out_starts (wiring_of d) valid.sound (flow_at d i).to to).0)

  module _ (sets : List ℕ) (marks : List Bool) (named : AreNamed d 0 (length (all_flows d)) sets) (marked : marks ≡ waiting_marks d) where
    -- ---- what the rows list are dependencies

    at_switch : (c s q e : ℕ) → end_of d c ≡ Some (Switch s q) → Contains (filter_map (out_of (ends_of d) s) (ports_of (slice_index sets c))) e → IsDependency (network_of d) c e
    unfolding network_of
    at_switch c s q e at h =
        let given = Contains-from_filter_map (out_of (ends_of d) s) (ports_of (slice_index sets c)) e h in
        let port = ((ports_listed (slice_index sets c)).members given.0).0 given.1 in
        let n = (named.ports c given.0).0 port.1 in
        let two : Some (Switch n.named.switch n.named.arrival) ≡ Some (Switch s q) = sym n.named.ends ∙ at in
        let here : n.named.switch ≡ s = cc in
        let step : declared.Follows d n.flow c n.deleted e (deleted_behind (look_after d n.flow n.named.switch n.deleted) n.deleted) =
        record {
          switch = n.named.switch;
          port = n.named.arrival;
          ends = n.named.ends;
          bytes_left = n.named.bytes_left;
          named = record { port = given.0; is_port = port.0; named = n.named.named; linked = ap (λ (t : ℕ). out_of (ends_of d) t given.0) here ∙ given.2 };
          deleted = refl;
        } in
        let same = steps_agree d valid n.number n.flow n.numbered in
        let m : ℕ = deleted_behind (look_after d n.flow n.named.switch n.deleted) n.deleted in
        ByFlow n.number c n.deleted e m (slice_get_within (all_flows d) n.number n.flow n.numbered) ((same.place c n.deleted).1 n.place) ((same.step c n.deleted e m).1 step)

    target_shows : (t c x : ℕ) → may_make_wait d t ≡ true → out (ends_of d) t ≡ Some x → c ≡ partner x → IsDependency (network_of d) c x
    unfolding network_of
    target_shows t c x is leaves enters =
        let h = answered_flow d t (waiting_answers d t is) in
        let i : ℕ = h.number in
        let here : slice_get (all_flows d) i ≡ Some h.flow = h.numbered in
        let below : i < length (all_flows d) = slice_get_within (all_flows d) i h.flow here in
        let to : (flow_at d i).to ≡ t = rw here h.ends_there in
        let reply : (flow_at d i).reply ≡ Some (reply_number d i) = rw here (replied_with (reply_number d i) h.flow.reply h.replied) in
        let is_out : (network_of d).out (flow_at d i).to ≡ x = rw (to, leaves) refl in
        let is_into : (network_of d).into (flow_at d i).to ≡ c = rw (to, leaves) (sym enters) in
        let shown : IsDependency (network_of d) ((network_of d).into (flow_at d i).to) ((network_of d).out (flow_at d i).to) = ByTarget i (reply_number d i) below reply (not_always_where d (flow_at d i).to (subst (λ (n : ℕ). may_make_wait d n ≡ true) (sym to) is)) in
        subst (λ (y : ℕ). IsDependency (network_of d) y x) is_into (subst (λ (y : ℕ). IsDependency (network_of d) ((network_of d).into (flow_at d i).to) y) is_out shown)

    at_node : (c t e : ℕ) → end_of d c ≡ Some (Node t) → Contains (if is_marked marks t then option_to_list (out (ends_of d) t) else []) e → IsDependency (network_of d) c e
    at_node c t e at h =
        elim (cases_Bool (is_marked marks t)) [
          | inr unset ↦ absurd (none_in e (rw unset at h))
          | inl set ↦
              let waits = marked_waits d t (subst (λ (l : List Bool). is_marked l t ≡ true) marked set) in
              let only = node_only (wiring_of d) valid.sound t (answering_within d valid t (waiting_answers d t waits)) in
              let one : Contains (only.0 ∷ []) e = rw (set, only.1.first) at h in
              elim (Contains-cases only.0 e [] one) [
                | inr none ↦ absurd (none_in e none)
                | inl is ↦ subst (λ (y : ℕ). IsDependency (network_of d) c y) is (target_shows t c only.0 waits only.1.first (only.1.ends.alone c at))
              ]
        ]

    listed_depends : (c e : ℕ) (o : Option PlaceEnd) → end_of d c ≡ o → Contains (row_at_end (ends_of d) (slice_index sets c) marks o) e → IsDependency (network_of d) c e
    listed_depends c e None at h = absurd (none_in e h)
    listed_depends c e (Some (Switch s q)) at h = at_switch c s q e at h
    listed_depends c e (Some (Node t)) at h = at_node c t e at h

    -- ---- the rows list all dependencies

    target_listed : (t x : ℕ) → may_make_wait d t ≡ true → out (ends_of d) t ≡ Some x → slice_get (ends_of d) x ≡ Some (Node t) → Contains (row_at_end (ends_of d) (slice_index sets (partner x)) marks (end_of d (partner x))) x
    target_listed t x h leaves starts =
        let at : end_of d (partner x) ≡ Some (Node t) = ap (slice_get (ends_of d)) (partner_back x) ∙ starts in
        let set : is_marked marks t ≡ true = subst (λ (l : List Bool). is_marked l t ≡ true) (sym marked) (waits_marked d valid t h) in
        rw (at, set, leaves) (Contains-head x [])

    depends_listed : (c e : ℕ) → IsDependency (network_of d) c e → Contains (row_at_end (ends_of d) (slice_index sets c) marks (end_of d c)) e
    unfolding network_of
    depends_listed x y (ByFlow i c k e m lt place follows) =
        let f = some_at (all_flows d) i lt in
        let same = steps_agree d valid i f.0 f.1 in
        let p = (same.place c k).0 place in
        let s = (same.step c k e m).0 follows in
        let n : IsNamed d 0 (length (all_flows d)) c s.named.port =
        record {
          number = i;
          flow = f.0;
          from = omega arith;
          below = lt;
          numbered = f.1;
          deleted = k;
          place = p;
          named = record { switch = s.switch; arrival = s.port; ends = s.ends; bytes_left = s.bytes_left; named = s.named.named };
        } in
        let listed = ((ports_listed (slice_index sets c)).members s.named.port).1 (s.named.is_port, (named.ports c s.named.port).1 n) in
        rw s.ends (Contains-filter_map (out_of (ends_of d) s.switch) (ports_of (slice_index sets c)) s.named.port e listed s.named.linked)
    depends_listed x y (ByTarget i j lt reply never) =
        let f = some_at (all_flows d) i lt in
        let to : (flow_at d i).to ≡ f.0.to = rw f.1 refl in
        let is = All-at (IsFlow d.nodes) (all_flows d) i f.0 f.1 (valid_flows d valid).0 in
        let only = node_only (wiring_of d) valid.sound f.0.to is.to in
        let takes_not : AlwaysTakes (network_of d) f.0.to → ⊥ = subst (λ (n : ℕ). AlwaysTakes (network_of d) n → ⊥) to never in
        let waits = may_wait_unless d f.0.to (answers d f.0.to i f.0 f.1 (has_reply (reply_number d i) j f.0.reply (rw f.1 at reply)) refl) takes_not in
        rw (to, only.1.first) (target_listed f.0.to only.0 waits only.1.first only.1.starts.here)

    row_exact : (c e : ℕ) → Contains (row_of d sets marks c) e ↔ IsDependency (network_of d) c e
    unfolding row_of
    row_exact c e = (listed_depends c e (end_of d c) refl, depends_listed c e)

    module _ (rows : List (Vec ℕ Global)) (are : AreRows d sets marks (length (ends_of d)) rows) where
      pub exact : (c e : ℕ) → Leads rows c e ↔ IsDependency (network_of d) c e
      exact c e = (
        λ h.
            let lt = row_member rows c e h in
            let size = are.size in
            (row_exact c e).0 (subst (λ (l : List ℕ). Contains l e) (are.each c (omega arith)) h),
        λ h.
            let lt = (within c e h).0 in
            subst (λ (l : List ℕ). Contains l e) (sym (are.each c lt)) ((row_exact c e).1 h),
      )

      pub graph : IsGraph rows
      graph k v lt =
          let at : row rows k ≡ (get_or rows k v).items = row_read rows k (get_or rows k v) lt (get_or_default rows k v (get_or rows k v) lt) in
          subst (All (λ e. e < length rows)) at (λ i x li.
          let e : ℕ = get_or (row rows k) i x in
          let here = (within k e ((exact k e).0 (Contains-get_or (row rows k) i x li))).1 in
          let size = are.size in
          omega arith)
