-- The steps, places and faults of a flow, in the machine and by its entry.
use Rattle.std.proofs.Common.{◌≡◌, ◌≢◌, ℕ, ◌-◌, ◌<◌, ◌≤◌, List, [], length, Option, Some, None, refl, sym, ap, ◌∙◌, subst, arith, Contains}
use Rattle.std.specs.Prelude.{slice_index}
use Rattle.sw_flow.specs.PlaceEnd.{PlaceEnd}
use Rattle.sw_flow.specs.PlaceEnd.TheVariants.{Node, Switch}
use Rattle.sw_flow.specs.Wiring.{out, partner}
use Rattle.sw_flow.proofs.Ends.{node_only}
use Rattle.sw_flow.specs.Looks.{NamesOutput}
use Rattle.sw_flow.specs.Entries.{FlowEntry, Declaration, wiring_of, look_at, all_flows}
use Rattle.sw_flow.specs.Valid.{IsFlow, IsValid}
use Rattle.sw_flow.proofs.Flows.{All-at}
use Rattle.sw_flow.proofs.FlowLaws.{valid_flows}
use Rattle.sw_flow.specs.declared.fault.RouteFault.{RouteFault}
use Rattle.sw_flow.specs.declared.fault.RouteFault.TheVariants.{AddressEnds, NoRoute, WrongNode, WrongLeft}
use Rattle.sw_flow.specs.Places.{ends_of, end_of, look_after}
use Rattle.sw_flow.specs.Places as declared
use Rattle.sw_flow.specs.Places.IsPlace.{start, next}
use Rattle.sw_flow.specs.Faults.{fault_of}
use Rattle.sw_flow.specs.Numbers.{outputs}
use Rattle.sw_flow.proofs.Outputs.{outputs_are}
use Rattle.sw_flow.proofs.Faulty.{faults_are}
use Rattle.sw_flow.proofs.Stepping.{places_are_in}
use Rattle.sw_machine.specs.Network.{AtNode, AtSwitch}
use Rattle.sw_machine.specs.Places as machine
use Rattle.sw_machine.specs.Places.IsPlace.{Start, Goes}
use Rattle.sw_machine.specs.Model.{cell_of, network_of}
use Rattle.sw_machine.specs.ModelLaws.{IsFlowAt, FlowAgrees, LooksAgree, StepsOfFlowsAgree}
use Rattle.sw_machine.proofs.Flows.{flow_at, some_at}
use Rattle.sw_machine.proofs.Topology.{cell_node, partner_within}
use Rattle.sw_flow.proofs.Lists.{none_listed}

-- an end at a switch is one of its ports
pub switch_of : (o : Option PlaceEnd) (s : ℕ) → cell_of o ≡ AtSwitch s → (p : ℕ) × (o ≡ Some (Switch s p))
switch_of None s h = absurd cc
switch_of (Some (Node n)) s h = absurd cc
switch_of (Some (Switch t p)) s h = let same : t ≡ s = cc in (p, ap (λ (x : ℕ). Some (Switch x p)) same)

pub looks_agree : LooksAgree
unfolding network_of
looks_agree d s byte = record { named = outputs_are (ends_of d) s (look_at d.switches s byte); deleted = refl }

nothing_of : (xs : List ℕ) (x : ℕ) → xs ≡ [] → Contains xs x → ⊥
nothing_of xs x none h = let bad : Contains [] x = rw none at h in omega (arith, bad.1)

module _ (d : Declaration) (i : ℕ) (f : FlowEntry) (here : IsFlowAt d i f) where
  address_is : (flow_at d i).address ≡ f.address
  address_is = rw here refl

  to_is : (flow_at d i).to ≡ f.to
  to_is = rw here refl

  left_is : (flow_at d i).left ≡ f.left
  left_is = rw here refl

  -- what holds of the address of the entry holds of that of the machine's flow
  to_machine : (P : List ℕ → Type 0) → P f.address → P (flow_at d i).address
  to_machine P h = subst P (sym address_is) h

  from_machine : (P : List ℕ → Type 0) → P (flow_at d i).address → P f.address
  from_machine P h = subst P address_is h

  step_in : (c k e m : ℕ) → declared.Follows d f c k e m → machine.Follows (network_of d) i c k e m
  unfolding network_of
  step_in c k e m h = record {
    switch = h.switch;
    at = ap cell_of h.ends;
    within = to_machine (λ (a : List ℕ). k < length a) h.bytes_left;
    named = to_machine (λ (a : List ℕ). Contains (outputs (ends_of d) h.switch (look_at d.switches h.switch (slice_index a k))) e) ((outputs_are (ends_of d) h.switch (look_after d f h.switch k) e).1 h.named);
    deleted = to_machine (λ (a : List ℕ). m ≡ declared.deleted_behind (look_at d.switches h.switch (slice_index a k)) k) h.deleted;
  }

  step_out : (c k e m : ℕ) → machine.Follows (network_of d) i c k e m → declared.Follows d f c k e m
  unfolding network_of
  step_out c k e m h =
      let port = switch_of (end_of d c) h.switch h.at in
      record {
        switch = h.switch;
        port = port.0;
        ends = port.1;
        bytes_left = from_machine (λ (a : List ℕ). k < length a) h.within;
        named = (outputs_are (ends_of d) h.switch (look_after d f h.switch k) e).0 (from_machine (λ (a : List ℕ). Contains (outputs (ends_of d) h.switch (look_at d.switches h.switch (slice_index a k))) e) h.named);
        deleted = from_machine (λ (a : List ℕ). m ≡ declared.deleted_behind (look_at d.switches h.switch (slice_index a k)) k) h.deleted;
      }

  module _ (valid : IsValid d) where
    -- the channel of the flow's node
    starts : (c : ℕ) × (out (ends_of d) f.from ≡ Some c) × ((network_of d).out ((network_of d).flow i).from ≡ c)
    unfolding network_of
    starts =
        let is = All-at (IsFlow d.nodes) (all_flows d) i f here (valid_flows d valid).0 in
        let only = node_only (wiring_of d) valid.sound f.from is.from in
        (only.0, only.1.first, rw (here, only.1.first) refl)

    place_in : (c k : ℕ) → declared.IsPlace d f c k → machine.IsPlace (network_of d) i c k
    place_in c k (start first) =
        let s = starts in
        let e : Some s.0 ≡ Some c = sym s.1 ∙ first in
        let same : s.0 ≡ c = cc in
        subst (λ (x : ℕ). machine.IsPlace (network_of d) i x 0) (s.2 ∙ same) Start
    place_in c k (next {c = b} {k = j} p h) = Goes b j c k (place_in b j p) (step_in b j c k h)

    place_out : (c k : ℕ) → machine.IsPlace (network_of d) i c k → declared.IsPlace d f c k
    place_out c k Start = let s = starts in subst (λ (x : ℕ). declared.IsPlace d f x 0) (sym s.2) (start s.1)
    place_out c k (Goes b j e m p h) = next (place_out b j p) (step_out b j e m h)

    -- a channel that ends at a node
    end_node : (c n : ℕ) → c < length (ends_of d) → cell_of (end_of d c) ≡ AtNode n → end_of d c ≡ Some (Node n)
    end_node c n lt h =
        let e = some_at (ends_of d) (partner c) (partner_within (wiring_of d) valid.sound c lt) in
        e.1 ∙ ap Some (cell_node e.0 n (rw e.1 at h))

    fault_in : (c k : ℕ) → c < length (ends_of d) → fault_of d f c k ≡ None → machine.NoFault (network_of d) i c k
    unfolding network_of
    fault_in c k lt none =
        let all = faults_are d f c k in
        record {
          address = λ h.
              let port = switch_of (end_of d c) h.switch h.at in
              let ends : k ≡ length f.address = from_machine (λ (a : List ℕ). k ≡ length a) h.ends in
              let bad = all.address_ends.1 (h.switch, port.0, port.1, omega arith) in
              cc;
          route = λ h.
              let port = switch_of (end_of d c) h.switch h.at in
              let unnamed : outputs (ends_of d) h.switch (look_after d f h.switch k) ≡ [] = from_machine (λ (a : List ℕ). outputs (ends_of d) h.switch (look_at d.switches h.switch (slice_index a k)) ≡ []) h.unnamed in
              let none_named = λ (e : ℕ) (n : NamesOutput (ends_of d) h.switch (look_after d f h.switch k) e). nothing_of _ e unnamed ((outputs_are (ends_of d) h.switch (look_after d f h.switch k) e).1 n) in
              let bad = all.no_route.1 (h.switch, port.0, port.1, from_machine (λ (a : List ℕ). k < length a) h.within, none_named) in
              cc;
          node = λ h.
              let other : h.node ≢ f.to = λ same. h.other (same ∙ sym to_is) in
              let bad = all.wrong_node.1 (h.node, end_node c h.node lt h.at, other) in
              cc;
          left = λ h.
              let other : length f.address - k ≢ f.left = λ same. h.other (rw (address_is, left_is) same) in
              let bad = all.wrong_left.1 (end_node c f.to lt (h.at ∙ ap AtNode to_is), other) in
              cc;
        }

    fault_out : (c k : ℕ) → k ≤ length f.address → machine.NoFault (network_of d) i c k → fault_of d f c k ≡ None
    unfolding network_of
    fault_out c k few sound = by (fault_of d f c k) refl
      where
        by : (o : Option RouteFault) → fault_of d f c k ≡ o → o ≡ None
        by None is = refl
        by (Some AddressEnds) is =
            let w = (faults_are d f c k).address_ends.0 is in
            let ends : k ≡ length f.address = omega arith in
            absurd (sound.address (record { switch = w.0; at = ap cell_of w.2; ends = to_machine (λ (a : List ℕ). k ≡ length a) ends }))
        by (Some NoRoute) is =
            let w = (faults_are d f c k).no_route.0 is in
            let unnamed : outputs (ends_of d) w.0 (look_after d f w.0 k) ≡ [] = none_listed _ (λ e h. w.4 e ((outputs_are (ends_of d) w.0 (look_after d f w.0 k) e).0 h)) in
            absurd (sound.route (record {
              switch = w.0;
              at = ap cell_of w.2;
              within = to_machine (λ (a : List ℕ). k < length a) w.3;
              unnamed = to_machine (λ (a : List ℕ). outputs (ends_of d) w.0 (look_at d.switches w.0 (slice_index a k)) ≡ []) unnamed;
            }))
        by (Some WrongNode) is =
            let w = (faults_are d f c k).wrong_node.0 is in
            absurd (sound.node (record { node = w.0; at = ap cell_of w.1; other = λ same. w.2 (same ∙ to_is) }))
        by (Some WrongLeft) is =
            let w = (faults_are d f c k).wrong_left.0 is in
            absurd (sound.left (record { at = ap cell_of w.0 ∙ ap AtNode (sym to_is); other = λ same. w.1 (rw (address_is, left_is) at same) }))

    pub agrees : FlowAgrees d i f
    agrees = record {
      step = λ c k e m. (step_out c k e m, step_in c k e m);
      place = λ c k. (place_out c k, place_in c k);
      fault = λ c k lt few. (fault_out c k few, fault_in c k lt);
      well_routed = (
        λ well c k place. fault_out c k (places_are_in d f c k place).1 (well c k (place_in c k place)),
        λ well c k place. let there = place_out c k place in fault_in c k (places_are_in d f c k there).0 (well c k there),
      );
    }

pub steps_agree : StepsOfFlowsAgree
steps_agree d valid i f here = agrees d i f here valid

-- ---- the place of a switch has its number

pub switch_is : (r s : ℕ) → AtSwitch r ≡ AtSwitch s → r ≡ s
switch_is r s e = cc

-- ---- a declared network has the nodes that are declared

pub same_nodes : (d : Declaration) → length d.nodes ≡ (network_of d).nodes
unfolding network_of
same_nodes d = refl
