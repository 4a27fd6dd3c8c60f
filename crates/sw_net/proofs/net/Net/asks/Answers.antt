use Rattle.std.proofs.Common.{Some, ap, arith, length, subst, ◌∙◌, ◌≡◌}
use Rattle.std.proofs.lemmas.Option.{slice_get_within}
use Rattle.std.specs.Prelude.{slice_get}
use Rattle.sw_flow.specs.Places.{ends_of}
use Rattle.sw_net.proofs.Asks.{none_asks, none_set, switch_asks}
use Rattle.sw_net.proofs.net.Net.asks.Goals as goal
use Rattle.sw_config.specs.Entries.{Declaration, wiring_of}
use Rattle.sw_topo.specs.Wiring.{Wiring}
use Rattle.sw_topo.specs.declared.place.PlaceEnd.TheVariants.{Switch}

pub returns : goal.returns
returns g c =
    let v = c.args.self.now in
    let wires = c.topology.ensures.wiring ∙ ap wiring_of c.network-network.ensures.network in
    let starts = subst (λ (w : Wiring). slice_get w.ends c.args.end ≡ Some (Switch c.in-Switch.w c.in-Switch.out)) wires (subst (λ k. slice_get c.topology.result.now.ends k ≡ Some (Switch c.in-Switch.w c.in-Switch.out)) c.sends.ensures (c.in-Switch.ensures.place)) in
    switch_asks g.R.Routing.answer g.A.Arbiter.ports v c.network-network.ensures.sound c.args.end c.in-Switch.w c.in-Switch.out c.switch.result.now c.switch.ensures starts c.asks.result c.asks.ensures

pub start_of-requires : goal.start_of-requires
start_of-requires g c =
    let size = ap (λ (k : Wiring). length k.ends) c.topology.ensures.wiring in
    let count = c.channels.ensures.ends in
    let number = c.number.ensures in
    let sends = c.sends.ensures in
    let within = c.if-number-channels.false in
    omega arith

pub switch-requires : goal.switch-requires
switch-requires g c =
    let inside = c.in-Switch.ensures.inside.0 in
    let count = ap (λ (k : Wiring). k.switches) c.topology.ensures.wiring in
    let same = ap (λ (d : Declaration). length d.switches) c.network-network.ensures.network in
    omega arith

pub returns-then-number-channels : goal.returns-then-number-channels
returns-then-number-channels g c =
    let v = c.args.self.now in
    none_asks g.R.Routing.answer g.A.Arbiter.ports v c.network-network.ensures.sound c.args.end 0 none_set
    (λ w out starts.
    let lt = slice_get_within (ends_of v.declared) c.args.end (Switch w out) starts in
    let same = ap (λ (d : Declaration). length (ends_of d)) c.network-network.ensures.network in
    let count = c.channels.ensures.ends in
    let number = c.number.ensures in
    let past = c.if-number-channels.true in
    omega arith)
