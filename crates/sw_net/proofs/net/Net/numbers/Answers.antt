use Rattle.std.proofs.Common.{Some, subst, sym, ◌≡◌}
use Rattle.std.specs.Prelude.{slice_get}
use Rattle.sw_config.specs.Entries.{Declaration, capacities}
use Rattle.sw_machine.proofs.DeclaredNetworks.{are_networks}
use Rattle.sw_net.proofs.LinkNumbers.{node_numbers, switch_numbers}
use Rattle.sw_net.proofs.net.Net.numbers.Goals as goal
use Rattle.sw_net.specs.Numbers.{AreNumbers}

pub returns-in-Node : goal.returns-in-Node
returns-in-Node g c =
    let v = c.args.self.now in
    let lt = c.place_of.ensures.within in
    let back = ((are_networks v.declared c.place_of.ensures.sound.valid).reversed c.args.end lt).0 in
    let capacity = subst (λ (d : Declaration). slice_get (capacities d.links) c.receives.result ≡ Some c.capacity-capacity.result) c.network-network.ensures.network c.capacity-capacity.ensures.capacity in
    subst (AreNumbers v c.args.end) (sym c.numbers_of.ensures)
    (node_numbers v c.place_of.ensures.sound.valid c.args.end c.credit.result c.outstanding.result c.buffered.result c.capacity-capacity.result
    (subst (λ k. slice_get (capacities v.declared.links) k ≡ Some c.capacity-capacity.result) c.receives.ensures capacity)
    c.in-Node.n c.node-node.result.now c.node-node.ensures c.in-Node.ensures.starts lt back c.credit.ensures c.outstanding.ensures c.buffered.ensures)

pub returns-in-Switch : goal.returns-in-Switch
returns-in-Switch g c =
    let v = c.args.self.now in
    let capacity = subst (λ (d : Declaration). slice_get (capacities d.links) c.receives.result ≡ Some c.capacity-capacity.result) c.network-network.ensures.network c.capacity-capacity.ensures.capacity in
    subst (AreNumbers v c.args.end) (sym c.numbers_of-in-Switch.ensures)
    (switch_numbers v c.place_of.ensures.sound.valid c.args.end c.credit-in-Switch.result c.outstanding-in-Switch.result c.buffered-in-Switch.result c.capacity-capacity.result
    (subst (λ k. slice_get (capacities v.declared.links) k ≡ Some c.capacity-capacity.result) c.receives.ensures capacity)
    c.in-Switch.w c.switch-switch.result.now c.in-Switch.port c.switch-switch.ensures c.in-Switch.ensures.starts c.credit-in-Switch.ensures c.outstanding-in-Switch.ensures c.buffered-in-Switch.ensures)
