use Rattle.std.proofs.Common.{Some, ap, arith, length, subst, sym, ◌∙◌, ◌≡◌}
use Rattle.std.specs.Prelude.{slice_get}
use Rattle.sw_flow.specs.Places.{ends_of}
use Rattle.sw_config.specs.Entries.{Declaration, wiring_of}
use Rattle.sw_net.proofs.ChangedNumbers.{held_there, none_at_node, not_idle, not_spilling}
use Rattle.sw_net.proofs.Delivered.{channel_count}
use Rattle.sw_net.proofs.net.Net.held_output.Goals as goal
use Rattle.sw_topo.specs.Wiring.{Wiring, out_of, partner}
use Rattle.sw_topo.specs.declared.place.PlaceEnd.TheVariants.{Node, Switch}

pub returns-then-number-channels : goal.returns-then-number-channels
returns-then-number-channels g c = λ s k lt d holds.
    let all = channel_count c.args.self.now.declared in
    let same = ap (λ (e : Declaration). length e.links) c.network-network.ensures.network in
    let count = c.channels.ensures.count in
    let number = c.number.ensures in
    let past = c.if-number-channels.true in
    absurd (omega arith)

pub returns-in-Node : goal.returns-in-Node
returns-in-Node g c = λ s k lt d holds.
    let wires = c.topology.ensures.wiring ∙ ap wiring_of c.network-network.ensures.network in
    let ends = subst (λ (w : Wiring). slice_get w.ends (partner c.args.channel) ≡ Some (Node c.in-Node.field-0)) wires c.in-Node.ensures.place in
    absurd (none_at_node c.args.self.now s k c.args.channel c.network-network.ensures.sound.valid c.in-Node.field-0 ends lt d holds)

pub returns-in-Held : goal.returns-in-Held
returns-in-Held g c = λ s k lt d holds.
    let wires = c.topology.ensures.wiring ∙ ap wiring_of c.network-network.ensures.network in
    let ends = subst (λ (w : Wiring). slice_get w.ends (partner c.args.channel) ≡ Some (Switch c.in-Switch.w c.in-Switch.port)) wires c.in-Switch.ensures.place in
    let cell = c.switch.result.now in
    let same = ap (λ (e : Declaration). out_of (ends_of e) c.in-Switch.w c.in-Held.held) c.network-network.ensures.network in
    c.starter.ensures ∙ same
    ∙ held_there c.args.self.now s k c.args.channel c.in-Switch.w c.in-Switch.port cell c.switch.ensures ends d holds g.R.Routing.answer g.A.Arbiter.ports (c.network-network.ensures.sound.switches c.in-Switch.w cell c.switch.ensures) c.in-Held.held (sym c.in-Held.ensures)

pub returns-in-Idle : goal.returns-in-Idle
returns-in-Idle g c = λ s k lt d holds.
    let wires = c.topology.ensures.wiring ∙ ap wiring_of c.network-network.ensures.network in
    let ends = subst (λ (w : Wiring). slice_get w.ends (partner c.args.channel) ≡ Some (Switch c.in-Switch.w c.in-Switch.port)) wires c.in-Switch.ensures.place in
    absurd (not_idle c.args.self.now s k c.args.channel c.in-Switch.w c.in-Switch.port c.switch.result.now c.switch.ensures ends d holds (sym c.in-Idle.ensures))

pub returns-in-Spilling : goal.returns-in-Spilling
returns-in-Spilling g c = λ s k lt d holds.
    let wires = c.topology.ensures.wiring ∙ ap wiring_of c.network-network.ensures.network in
    let ends = subst (λ (w : Wiring). slice_get w.ends (partner c.args.channel) ≡ Some (Switch c.in-Switch.w c.in-Switch.port)) wires c.in-Switch.ensures.place in
    absurd (not_spilling c.args.self.now s k c.args.channel c.in-Switch.w c.in-Switch.port c.switch.result.now c.switch.ensures ends d holds (sym c.in-Spilling.ensures))
