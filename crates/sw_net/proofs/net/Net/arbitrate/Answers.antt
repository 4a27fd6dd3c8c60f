use Rattle.std.proofs.Common.{ap, arith, refl, set, subst, sym, ◌≡◌}
use Rattle.sw_cell.specs.Picks.{GrantsPick}
use Rattle.sw_machine.specs.Network.{AtSwitch}
use Rattle.sw_machine.specs.Steps.{Grant}
use Rattle.sw_machine.specs.Model.{network_of}
use Rattle.sw_net.proofs.Making.{none_is_made, picked_moves, picked_net, switch_here}
use Rattle.sw_net.proofs.Steps.{same_switch, switch_within}
use Rattle.sw_net.proofs.net.Net.arbitrate.Goals as goal
use Rattle.sw_net.specs.Making.{Moves}
use Rattle.sw_net.specs.Net.{IsNet, NetView, net_of}

pub arbitrate-requires-clause-cell : goal.arbitrate-requires-clause-cell
arbitrate-requires-clause-cell g c =
    let at = switch_here g.R.Routing.answer g.A.Arbiter.ports (net_of c.self.inside.network.now c.self.inside.nodes.items c.self.inside.switches.items c.self.inside.wires) c.args.self.now c.self.view_is c.self.invariant c.args.w c.index_mut-cell.result.now c.requires.switch c.index_mut-cell.ensures.value in
    c.self.invariant.switches c.args.w c.index_mut-cell.result.now at

pub returns-in_err-channel-clause-moves : goal.returns-in_err-channel-clause-moves
returns-in_err-channel-clause-moves g c =
    let at = switch_here g.R.Routing.answer g.A.Arbiter.ports (net_of c.self.inside.network.now c.self.inside.nodes.items c.self.inside.switches.items c.self.inside.wires) c.args.self.now c.self.view_is c.self.invariant c.args.w c.index_mut-cell.result.now c.requires.switch c.index_mut-cell.ensures.value in
    let starts = subst (λ (k : NetView g.row.R.Denot g.row.A.Denot). (network_of k.declared).start_of c.args.end ≡ AtSwitch c.args.w) (sym c.self.view_is) c.requires.at in
    none_is_made g.R.Routing.answer g.A.Arbiter.ports g.A.Arbiter.policy c.self.inside.network.now c.self.inside.nodes.items c.self.inside.switches.items c.self.inside.wires c.self.invariant c.args.w c.index_mut-cell.result.now at c.args.end starts c.args.self.now c.self.view_is c.requires.no_other c.sends.result c.sends.ensures c.in_err-channel.ensures.none c.arbitrate.new.cell c.in_err-channel.ensures.kept c.from_residual.result c.from_residual.ensures

pub invariant_of-self-2 : goal.invariant_of-self-2
invariant_of-self-2 g c =
    let at = switch_here g.R.Routing.answer g.A.Arbiter.ports (net_of c.self.inside.network.now c.self.inside.nodes.items c.self.inside.switches.items c.self.inside.wires) c.args.self.now c.self.view_is c.self.invariant c.args.w c.index_mut-cell.result.now c.requires.switch c.index_mut-cell.ensures.value in
    let starts = subst (λ (k : NetView g.row.R.Denot g.row.A.Denot). (network_of k.declared).start_of c.args.end ≡ AtSwitch c.args.w) (sym c.self.view_is) c.requires.at in
    let picks = subst (λ k. GrantsPick g.R.Routing.answer g.A.Arbiter.policy c.self.inside.network.now c.args.w c.index_mut-cell.result.now c.arbitrate.new.cell k c.in_ok-channel.channel) c.sends.ensures c.in_ok-channel.ensures.some in
    picked_net g.R.Routing.answer g.A.Arbiter.ports g.A.Arbiter.policy c.self.inside.network.now c.self.inside.nodes.items c.self.inside.switches.items c.self.inside.wires c.self.invariant c.args.w c.index_mut-cell.result.now at c.args.end starts c.arbitrate.new.cell c.in_ok-channel.channel picks c.in_ok-channel.ensures.cell

pub returns-clause-moves : goal.returns-clause-moves
returns-clause-moves g c =
    let at = switch_here g.R.Routing.answer g.A.Arbiter.ports (net_of c.self.inside.network.now c.self.inside.nodes.items c.self.inside.switches.items c.self.inside.wires) c.args.self.now c.self.view_is c.self.invariant c.args.w c.index_mut-cell.result.now c.requires.switch c.index_mut-cell.ensures.value in
    let starts = subst (λ (k : NetView g.row.R.Denot g.row.A.Denot). (network_of k.declared).start_of c.args.end ≡ AtSwitch c.args.w) (sym c.self.view_is) c.requires.at in
    let picks = subst (λ k. GrantsPick g.R.Routing.answer g.A.Arbiter.policy c.self.inside.network.now c.args.w c.index_mut-cell.result.now c.arbitrate.new.cell k c.in_ok-channel.channel) c.sends.ensures c.in_ok-channel.ensures.some in
    let after = net_of c.self.inside.network.now c.self.inside.nodes.items (set c.self.inside.switches.items c.args.w c.arbitrate.new.cell) c.self.inside.wires in
    let moves = picked_moves g.R.Routing.answer g.A.Arbiter.ports g.A.Arbiter.policy c.self.inside.network.now c.self.inside.nodes.items c.self.inside.switches.items c.self.inside.wires c.self.invariant c.args.w c.index_mut-cell.result.now at c.args.end starts c.arbitrate.new.cell c.in_ok-channel.channel picks in
    subst (λ k. Moves g.R.Routing.answer g.A.Arbiter.policy c.args.self.now c.args.end (Grant k c.in_ok-channel.channel) after) (sym c.sends-2.ensures)
    (subst (λ (k : NetView g.row.R.Denot g.row.A.Denot). Moves g.R.Routing.answer g.A.Arbiter.policy k c.args.end (Grant c.args.end c.in_ok-channel.channel) after) c.self.view_is moves)

pub arbitrate-requires-clause-at : goal.arbitrate-requires-clause-at
arbitrate-requires-clause-at g c =
    let starts = subst (λ (k : NetView g.row.R.Denot g.row.A.Denot). (network_of k.declared).start_of c.args.end ≡ AtSwitch c.args.w) (sym c.self.view_is) c.requires.at in
    subst (λ k. (network_of c.self.inside.network.now).start_of k ≡ AtSwitch c.args.w) (sym c.sends.ensures) starts

pub returns-clause-network : goal.returns-clause-network
returns-clause-network g c = ap (λ (k : NetView g.row.R.Denot g.row.A.Denot). k.declared) c.self.view_is

pub returns-in_err-channel-clause-network : goal.returns-in_err-channel-clause-network
returns-in_err-channel-clause-network g c = ap (λ (k : NetView g.row.R.Denot g.row.A.Denot). k.declared) c.self.view_is

pub invariant_of-self : goal.invariant_of-self
invariant_of-self g c =
    let at = switch_here g.R.Routing.answer g.A.Arbiter.ports (net_of c.self.inside.network.now c.self.inside.nodes.items c.self.inside.switches.items c.self.inside.wires) c.args.self.now c.self.view_is c.self.invariant c.args.w c.index_mut-cell.result.now c.requires.switch c.index_mut-cell.ensures.value in
    let same = same_switch g.R.Routing.answer g.A.Arbiter.ports c.self.inside.network.now c.self.inside.nodes.items c.self.inside.switches.items c.self.inside.wires c.self.invariant (Grant c.args.end 0) c.args.w c.index_mut-cell.result.now at c.arbitrate.new.cell c.self.inside.wires c.in_err-channel.ensures.kept refl in
    subst (IsNet g.R.Routing.answer g.A.Arbiter.ports) (sym same) c.self.invariant

pub index_mut-cell-requires : goal.index_mut-cell-requires
index_mut-cell-requires g c = let within = switch_within g.R.Routing.answer g.A.Arbiter.ports (net_of c.self.inside.network.now c.self.inside.nodes.items c.self.inside.switches.items c.self.inside.wires) c.args.self.now c.self.view_is c.self.invariant c.args.w c.requires.switch in omega (arith, c.self.inside.switches.ok.0)
