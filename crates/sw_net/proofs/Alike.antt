-- States that a network's cells are the parts of have as much undelivered.
use Rattle.std.proofs.Common.{List, Option, Some, ap, arith, length, refl, subst, sym, ℕ, ◌+◌, ◌<◌, ◌∙◌, ◌≡◌}
use Rattle.std.specs.Prelude.{slice_get}
use Rattle.sw_config.proofs.Flows.{All-at}
use Rattle.sw_flow.specs.Places.{end_of, ends_of}
use Rattle.sw_link.specs.Between.{wire_at}
use Rattle.sw_machine.proofs.Balance.{total_same}
use Rattle.sw_machine.proofs.DeclaredNetworks.{are_networks}
use Rattle.sw_machine.proofs.Flows.{some_at}
use Rattle.sw_machine.specs.Model.{network_of}
use Rattle.sw_machine.specs.Owing.{length_pending}
use Rattle.sw_machine.specs.Runs.{undelivered}
use Rattle.sw_machine.specs.State.{State}
use Rattle.sw_cell.proofs.Network.{channels_are, nodes_are}
use Rattle.sw_net.proofs.Delivered.{channel_is, node_buffered, switch_buffered}
use Rattle.sw_net.specs.Delivery.{IsInChannel, at_node, in_channel}
use Rattle.sw_net.specs.Net.{IsNet, IsNetState, NetView}
use Rattle.sw_node.specs.Node.{Node as NodeCell}
use Rattle.sw_route.specs.declared.look.Look.{Look}
use Rattle.sw_switch.specs.Cell.{end_at}
use Rattle.sw_topo.specs.Checked.{IsIn}
use Rattle.sw_topo.specs.Wiring.{partner}
use Rattle.sw_topo.specs.declared.place.PlaceEnd.{PlaceEnd}
use Rattle.sw_topo.specs.declared.place.PlaceEnd.TheVariants.{Node, Switch}

module _ {R A : Type 0} (answer : R → ℕ → Look) (ports : A → ℕ) (v : NetView R A) (is : IsNet answer ports v) where
  -- so many are in a channel
  counted_at_end : (c : ℕ) → c < (network_of v.declared).channels → (p : PlaceEnd) → end_of v.declared c ≡ Some p → IsIn (length v.declared.nodes) (length v.declared.switches) p → (x : ℕ) × IsInChannel v c x
  counted_at_end c lt (Node n) at inside =
      let size = is.all_nodes in
      let node = some_at v.nodes n (omega arith) in
      let buffered = node_buffered answer ports v is n node.0 c (length (node.0).received.buffer) node.1 lt at refl in
      (length (node.0).received.buffer + length (wire_at v.between c), channel_is answer ports v is c (length (node.0).received.buffer) (length (wire_at v.between c)) lt buffered refl)
  counted_at_end c lt (Switch w port) at inside =
      let size = is.all_switches in
      let below = inside.0 in
      let cell = some_at v.switches w (omega arith) in
      let buffered = switch_buffered answer ports v is w cell.0 c port (length (end_at cell.0 port).buffer) cell.1 at refl in
      (length (end_at cell.0 port).buffer + length (wire_at v.between c), channel_is answer ports v is c (length (end_at cell.0 port).buffer) (length (wire_at v.between c)) lt buffered refl)

  counted_in : (c : ℕ) → c < (network_of v.declared).channels → (x : ℕ) × IsInChannel v c x
  counted_in c lt =
      let back = ((are_networks v.declared is.valid).reversed c lt).0 in
      let all = channels_are v.declared in
      let place = some_at (ends_of v.declared) (partner c) (omega arith) in
      counted_at_end c lt place.0 place.1 (All-at (IsIn (length v.declared.nodes) (length v.declared.switches)) (ends_of v.declared) (partner c) place.0 place.1 is.valid.sound.wiring.inside)

  module _ (s t : State) (k : IsNetState v s) (j : IsNetState v t) where
    same_channel : (c : ℕ) → c < (network_of v.declared).channels → in_channel s c ≡ in_channel t c
    same_channel c lt = let x = counted_in c lt in sym (x.1 s k) ∙ x.1 t j

    same_node : (n : ℕ) → n < (network_of v.declared).nodes → at_node s n ≡ at_node t n
    same_node n lt =
        let size = is.all_nodes in
        let all = nodes_are v.declared in
        let node = some_at v.nodes n (omega arith) in
        let here = k.nodes n node.0 node.1 in
        let there = j.nodes n node.0 node.1 in
        let sends = ap (λ l. length l) (here.to_send ∙ sym there.to_send) in
        let waits = ap length_pending (here.pending ∙ sym there.pending) in
        omega arith

    pub same_undelivered : undelivered (network_of v.declared) s ≡ undelivered (network_of v.declared) t
    same_undelivered =
        let channels = total_same (network_of v.declared).channels (in_channel s) (in_channel t) same_channel in
        let nodes = total_same (network_of v.declared).nodes (at_node s) (at_node t) same_node in
        omega arith
