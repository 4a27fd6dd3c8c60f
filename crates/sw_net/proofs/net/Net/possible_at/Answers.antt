use Rattle.std.proofs.Common.{None, Some, ap, arith, length, refl, subst, sym, true, ◌∙◌, ◌≡◌, ℕ}
use Rattle.std.specs.Prelude.{IsSome, slice_get}
use Rattle.sw_config.specs.Entries.{Declaration, wiring_of}
use Rattle.sw_flow.specs.Places.{end_of, ends_of}
use Rattle.sw_machine.specs.StepValues.{machine_step}
use Rattle.sw_machine.specs.Steps.{Grant}
use Rattle.sw_net.proofs.Asks.{none_granted, told}
use Rattle.sw_net.proofs.Making.{none_at_node, none_at_switch, plain_move}
use Rattle.sw_net.proofs.Told.{start_at_switch}
use Rattle.sw_net.proofs.net.Net.possible_at.Goals as goal
use Rattle.sw_net.specs.Making.{TellsReady}
use Rattle.sw_net.specs.Possible.{Tells}
use Rattle.sw_topo.proofs.Ends.{partner_back, port_starts}
use Rattle.sw_topo.proofs.PortBits.{zero_none}
use Rattle.sw_topo.specs.Checked.{IsIn}
use Rattle.sw_topo.specs.Wiring.{Wiring, out_of, partner}
use Rattle.sw_topo.specs.declared.place.PlaceEnd.TheVariants.{Switch}

pub returns-in-Some-clause-some : goal.returns-in-Some-clause-some
returns-in-Some-clause-some g c = plain_move c.args.self.now c.args.end (machine_step c.in-Some.step) c.in-Some.ensures.plain c.in-Some.ensures.belongs

pub returns-in-Some-clause-possible : goal.returns-in-Some-clause-possible
returns-in-Some-clause-possible g c = c.in-Some.ensures.possible

pub returns-in_default-clause-none : goal.returns-in_default-clause-none
returns-in_default-clause-none g c = none_at_node c.args.self.now c.args.end _ c.in-None.ensures c.in_default.not-Switch

pub switch-requires : goal.switch-requires
switch-requires g c = (subst (IsIn (length c.args.self.now.declared.nodes) (length c.args.self.now.declared.switches)) c.in-Switch.is c.place_of-place.ensures.inside).0

pub returns-in_default-first-clause-none : goal.returns-in_default-first-clause-none
returns-in_default-first-clause-none g c =
    let v = c.args.self.now in
    let starts = subst (λ p. slice_get (ends_of v.declared) c.args.end ≡ Some p) c.in-Switch.is c.place_of-place.ensures.starts in
    let none = subst (TellsReady v c.args.end None) c.in-Switch.is c.in-None.ensures in
    none_at_switch v c.place_of-place.ensures.sound.valid c.args.end c.in-Switch.w (start_at_switch v.declared c.args.end c.in-Switch.w c.in-Switch.out starts) none
    (none_granted g.R.Routing.answer g.A.Arbiter.ports v c.network-network.ensures.sound c.args.end c.in-Switch.w c.in-Switch.out c.switch.result.now c.switch.ensures starts
    (λ p can. zero_none c.asks.result (c.in_default-first.ensures.none.0 refl) p (omega arith) ((c.asks.ensures p).1 can)))

pub unwrap-back-requires : goal.unwrap-back-requires
unwrap-back-requires g c =
    let w = c.in-Switch.w in
    let p = c.in-Some-first.port in
    let for = c.network-network.ensures.sound.switches w c.switch.result.now c.switch.ensures in
    let can = (c.asks.ensures p).0 c.in-Some-first.ensures.least.member in
    let goes = c.out_of.ensures.channel ∙ ap (λ (x : Wiring). out_of x.ends w p) c.topology.ensures.wiring ∙ ap (λ (d : Declaration). out_of (ends_of d) w p) c.network-network.ensures.network in
    subst IsSome (sym goes) ((for.linked p).0 can.asks.linked)

pub returns-in-Some-first-clause-possible : goal.returns-in-Some-first-clause-possible
returns-in-Some-first-clause-possible g c =
    let v = c.args.self.now in
    let w = c.in-Switch.w in
    let p = c.in-Some-first.port in
    let back = c.unwrap-back.result in
    let starts = subst (λ p. slice_get (ends_of v.declared) c.args.end ≡ Some p) c.in-Switch.is c.place_of-place.ensures.starts in
    let can = (c.asks.ensures p).0 c.in-Some-first.ensures.least.member in
    let is = c.out_of.ensures.channel ∙ ap (λ (x : Wiring). out_of x.ends w p) c.topology.ensures.wiring ∙ ap (λ (d : Declaration). out_of (ends_of d) w p) c.network-network.ensures.network in
    let goes : out_of (ends_of v.declared) w p ≡ Some back = sym is ∙ c.unwrap-back.ensures in
    let ends : end_of v.declared (partner back) ≡ Some (Switch w p) = ap (slice_get (ends_of v.declared)) (partner_back back) ∙ port_starts (wiring_of v.declared) w p back goes in
    let tells = told g.R.Routing.answer g.A.Arbiter.ports v c.network-network.ensures.sound c.args.end w c.in-Switch.out c.switch.result.now c.switch.ensures starts p (partner back) true ends (λ _. can, λ _. refl) in
    subst (λ (k : ℕ × ℕ). Tells v (Grant k.0 k.1) true) (λ i. (sym c.sends.ensures i, sym c.partner.ensures i)) tells
