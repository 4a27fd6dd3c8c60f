use Rattle.std.proofs.Common.{◌≡◌, ◌<◌, Some, ap, arith, length, subst, sym, true, ◌∙◌}
use Rattle.std.proofs.lemmas.Bool.Decides.{not_from_Decides}
use Rattle.std.specs.Prelude.{IfSome, IsSome}
use Rattle.sw_cell.proofs.Network.{channels_are}
use Rattle.sw_cell.proofs.Passing as passing
use Rattle.sw_cell.proofs.Switches as switches
use Rattle.sw_cell.proofs.switch.forward.Goals as goal
use Rattle.sw_cell.specs.SwitchParts.{IsSwitchFor}
use Rattle.sw_flow.specs.Places.{ends_of}
use Rattle.sw_machine.specs.Steps.{Forward}
use Rattle.sw_topo.specs.Wiring.{Wiring, out_of}

pub returns-then-not-can_forward-clause-made : goal.returns-then-not-can_forward-clause-made
returns-then-not-can_forward-clause-made g c =
    passing.forward_not g.R.Routing.answer g.A.Arbiter.ports c.args.network.now c.args.w c.args.cell.now c.requires.cell c.args.wires.now c.args.channel c.input-port.result c.input-port.ensures (not_from_Decides c.can_forward.result c.can_forward.ensures c.if-not-can_forward.true)

pub out_of-requires : goal.out_of-requires
out_of-requires g c = subst (λ (x : Wiring). c.args.w < x.switches) (sym c.topology.ensures.wiring) c.requires.cell.in_net

pub unwrap-next-requires : goal.unwrap-next-requires
unwrap-next-requires g c =
    let out = c.forward-out.result.0 in
    let goes = c.out_of.ensures.channel ∙ ap (λ (x : Wiring). out_of x.ends c.args.w out) c.topology.ensures.wiring in
    subst IsSome (sym goes) (c.requires.cell.held c.input-port.result out c.forward-out.ensures.out).1

pub put-requires-clause-within : goal.put-requires-clause-within
put-requires-clause-within g c =
    let long = switches.wires_long g.R.Routing.answer g.A.Arbiter.ports c.args.network.now c.args.w c.args.cell.now c.requires.cell c.args.wires.now c.requires.reached in
    let all = channels_are c.args.network.now in
    let e = ap (λ (x : Wiring). length x.ends) c.topology.ensures.wiring in
    let lt : c.unwrap-next.result < length c.topology.result.now.ends = subst (λ o. IfSome o (λ k. k < length c.topology.result.now.ends)) c.unwrap-next.ensures c.out_of.ensures.within in
    omega arith

pub put-requires-clause-room : goal.put-requires-clause-room
put-requires-clause-room g c =
    let goes : out_of (ends_of c.args.network.now) c.args.w c.forward-out.result.0 ≡ Some c.unwrap-next.result = ap (λ (x : Wiring). out_of x.ends c.args.w c.forward-out.result.0) (sym c.topology.ensures.wiring) ∙ sym c.out_of.ensures.channel ∙ c.unwrap-next.ensures in
    passing.forward_room g.R.Routing.answer g.A.Arbiter.ports c.args.network.now c.args.w c.args.cell.now c.requires.cell c.args.wires.now c.input-port.result c.unwrap-next.result c.forward-out.result.0 c.forward-out.ensures.out goes (c.can_forward.ensures.0 c.if-not-can_forward.false) c.requires.reached

pub returns-clause-cell : goal.returns-clause-cell
returns-clause-cell g c =
    subst (λ k. IsSwitchFor g.R.Routing.answer g.A.Arbiter.ports c.args.network.now c.args.w k) (sym c.forward-out.ensures.after)
    (passing.kept_forwarded g.R.Routing.answer g.A.Arbiter.ports c.args.network.now c.args.w c.args.cell.now c.requires.cell c.args.channel c.input-port.result c.forward-out.result.0 c.forward-out.result.1 c.input-port.ensures c.forward-out.ensures.character)

pub returns-clause-made : goal.returns-clause-made
returns-clause-made g c =
    let goes : out_of (ends_of c.args.network.now) c.args.w c.forward-out.result.0 ≡ Some c.unwrap-next.result = ap (λ (x : Wiring). out_of x.ends c.args.w c.forward-out.result.0) (sym c.topology.ensures.wiring) ∙ sym c.out_of.ensures.channel ∙ c.unwrap-next.ensures in
    switches.made_as c.args.network.now c.args.w c.args.cell.now c.args.wires.now (Forward c.args.channel) true _ c.forward-out.new.self _ c.put.new.self
    c.forward-out.ensures.after
    c.put.ensures
    (passing.forward_made g.R.Routing.answer g.A.Arbiter.ports c.args.network.now c.args.w c.args.cell.now c.requires.cell c.args.wires.now c.args.channel c.input-port.result c.unwrap-next.result c.forward-out.result.0 c.forward-out.result.1 c.input-port.ensures c.forward-out.ensures.out goes (c.can_forward.ensures.0 c.if-not-can_forward.false) c.forward-out.ensures.character)
