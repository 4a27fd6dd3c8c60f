-- What the cells keep is what the state has.
use Rattle.std.proofs.Common.{List, None, Option, Some, [], ap, get_or, inl, inr, map, refl, subst, sym, ℕ, ◌^◌, ◌∙◌, ◌∷◌, ◌↔◌, ◌≡◌}
use Rattle.std.proofs.lemmas.Bool.{cases_eq, eq-eqb, ne_eqb}
use Rattle.std.proofs.lemmas.List.Elements.{All-map, filter_agree, filter_passes}
use Rattle.std.specs.List.{range_with_len}
use Rattle.std.specs.Prelude.{IsBitSet, IsSome, bit_and, is_some, slice_get, unwrap_or}
use Rattle.sw_cell.specs.SwitchParts.{IsSwitchFor, input_of}
use Rattle.sw_cell.specs.declared.cell.CellId.TheVariants as cells
use Rattle.sw_flow.specs.Places.{end_of, ends_of}
use Rattle.sw_machine.specs.State.{State}
use Rattle.sw_machine.specs.declared.input.InputState.{InputState}
use Rattle.sw_machine.specs.Model.{network_of}
use Rattle.sw_net.specs.Kept.{NodeView, PortView, kept_at_port, kept_by_node}
use Rattle.sw_net.specs.Net.{IsNetState, NetView}
use Rattle.sw_net.specs.KeptParts.{IsKept}
use Rattle.sw_net.specs.Parts.{ArePortsOf, IsNodeOf, IsPartOf, IsPortOf, IsSameInput, linked_ports}
use Rattle.sw_net.specs.declared.part.Part.{Part}
use Rattle.sw_net.specs.declared.part.Part.TheVariants as told
use Rattle.sw_config.specs.Entries.{wiring_of}
use Rattle.sw_node.specs.Node.{Node}
use Rattle.sw_route.specs.declared.look.Look.{Look}
use Rattle.sw_switch.specs.Cell.{Cell, input_at}
use Rattle.sw_switch.specs.declared.input.Input.{Input as PortInput}
use Rattle.sw_switch.specs.declared.input.Input.TheVariants as ports
use Rattle.sw_topo.proofs.Ends.{partner_back, port_starts}
use Rattle.sw_topo.specs.Ports.{has_port, ports_of}
use Rattle.sw_topo.specs.Wiring.{out_of, partner}
use Rattle.sw_topo.specs.declared.place.PlaceEnd.{PlaceEnd}
use Rattle.sw_topo.specs.declared.place.PlaceEnd.TheVariants.{Switch}
use Rattle.sw_cell.proofs.Passing.{some_of}

-- ---- inputs

it_is : (o : Option ℕ) → IsSome o → o ≡ Some (unwrap_or o 0)
it_is None is = absurd cc
it_is (Some x) is = refl

input_kept : (ends : List PlaceEnd) (w : ℕ) (i : PortInput) → ((p : ℕ) → i ≡ ports.Held p → IsSome (out_of ends w p)) → IsSameInput ends w i (input_of ends w i)
input_kept ends w ports.Idle held = tt
input_kept ends w (ports.Held p) held = it_is (out_of ends w p) (held p refl)
input_kept ends w ports.Spilling held = tt

-- ---- ports with a link

linked_alike : (set p : ℕ) (o : Option ℕ) → (IsBitSet set p ↔ IsSome o) → has_port set p ≡ is_some o
linked_alike set p None same = elim (cases_eq (bit_and set (2 ^ p)) 0) [ inl gone ↦ rw (eq-eqb _ _ gone) refl | inr here ↦ absurd (let c = same.0 here in cc) ]
linked_alike set p (Some c) same = rw (ne_eqb (bit_and set (2 ^ p)) 0 (same.1 refl)) refl

linked_are : (ends : List PlaceEnd) (w set : ℕ) → ((port : ℕ) → IsBitSet set port ↔ IsSome (out_of ends w port)) → ports_of set ≡ linked_ports ends w
unfolding ports_of
linked_are ends w set same = filter_agree (has_port set) (λ port. is_some (out_of ends w port)) (λ port. linked_alike set port (out_of ends w port) (same port)) (range_with_len 0 32)

ports_kept : {R A : Type 0} (cell : Cell R A) (l : List ℕ) → map (λ (part : PortView). part.port) (map (kept_at_port cell) l) ≡ l
ports_kept cell [] = refl
ports_kept cell (p ∷ l) = ap (λ (ps : List ℕ). p ∷ ps) (ports_kept cell l)

-- ---- cells

module _ {R A : Type 0} (v : NetView R A) (s : State) (k : IsNetState v s) where
  node_is : (n : ℕ) (node : Node) (part : NodeView) → slice_get v.nodes n ≡ Some node → part ≡ kept_by_node node → IsNodeOf (network_of v.declared) s n part
  node_is n node part at is =
      let p = k.nodes n node at in
      record {
        to_send = ap (λ (x : NodeView). x.to_send) is ∙ sym p.to_send;
        pending = ap (λ (x : NodeView). x.pending) is ∙ sym p.pending;
        owed = ap (λ (x : NodeView). x.owed) is ∙ sym p.owed;
        taken = ap (λ (x : NodeView). x.taken) is ∙ sym p.taken;
        memory = ap (λ (x : NodeView). x.memory) is ∙ sym p.memory;
        credit = ap (λ (x : NodeView). x.credit) is ∙ sym p.credit;
        buffer = ap (λ (x : NodeView). x.buffer) is ∙ sym p.buffer;
        outstanding = ap (λ (x : NodeView). x.outstanding) is ∙ sym p.outstanding;
      }

  pub node_part_is : (n : ℕ) (node : Node) (part : Part) → slice_get v.nodes n ≡ Some node → part ≡ told.Node (kept_by_node node) → IsPartOf v.declared s (cells.Node n) part
  node_part_is n node part at is = subst (IsPartOf v.declared s (cells.Node n)) (sym is) (node_is n node (kept_by_node node) at refl)

  module _ (answer : R → ℕ → Look) (arbiter_ports : A → ℕ) (w : ℕ) (cell : Cell R A) (at : slice_get v.switches w ≡ Some cell) (for : IsSwitchFor answer arbiter_ports v.declared w cell) where
    port_is : (port : ℕ) → IsSome (out_of (ends_of v.declared) w port) → IsPortOf v.declared s w (kept_at_port cell port)
    port_is port is =
        let d = v.declared in
        let out = some_of (out_of (ends_of d) w port) is in
        let c = out.0 in
        let starts = port_starts (wiring_of d) w port c out.1 in
        let ends : end_of d (partner c) ≡ Some (Switch w port) = ap (slice_get (ends_of d)) (partner_back c) ∙ starts in
        let p = k.switches w cell at in
        let q = p.ports (partner c) port ends in
        let input = input_kept (ends_of d) w (input_at cell port) (λ held e. (for.held port held e).1) in
        record {
          channel = c;
          starts = out.1;
          input = subst (λ (i : InputState). IsSameInput (ends_of d) w (input_at cell port) i) (sym q.input) input;
          credit = sym (p.credit c port starts);
          buffer = sym q.buffer;
          outstanding = sym q.outstanding;
        }

    ports_are : (parts : List PortView) → parts ≡ map (kept_at_port cell) (ports_of cell.linked) → ArePortsOf v.declared s w parts
    ports_are parts is =
        let all = linked_ports (ends_of v.declared) w in
        let linked = linked_are (ends_of v.declared) w cell.linked for.linked in
        let same : parts ≡ map (kept_at_port cell) all = is ∙ ap (map (kept_at_port cell)) linked in
        let passes = filter_passes (λ port. is_some (out_of (ends_of v.declared) w port)) (range_with_len 0 32) in
        rw same (record {
          ports = ports_kept cell all;
          each = All-map (IsPortOf v.declared s w) (kept_at_port cell) all (λ i x lt. port_is (get_or all i x) (passes i x lt));
        })

    pub switch_part_is : (part : Part) → IsKept cell part → IsPartOf v.declared s (cells.Switch w) part
    switch_part_is (told.Node part) is = absurd is
    switch_part_is (told.Switch parts) is = ports_are parts.items is
