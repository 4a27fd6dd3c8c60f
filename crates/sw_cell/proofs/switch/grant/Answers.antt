use Rattle.std.proofs.Common.{subst, sym, true, ◌∙◌}
use Rattle.std.proofs.lemmas.Bool.{false≢true}
use Rattle.sw_cell.proofs.Granting as granting
use Rattle.sw_cell.proofs.switch.grant.Goals as goal
use Rattle.sw_cell.specs.SwitchParts.{IsSwitchFor, SwitchMakes}
use Rattle.sw_machine.specs.Steps.{Grant}
use Rattle.sw_switch.specs.Conditions.{CanGrant}

pub returns-in_default-clause-made : goal.returns-in_default-clause-made
returns-in_default-clause-made g c = λ b.
    granting.grant_elsewhere g.R.Routing.answer g.A.Arbiter.ports c.args.network.now c.args.w c.args.cell.now c.requires.cell b c.args.channel c.input-port.result c.args.output c.input-port.ensures (sym c.output_port.ensures ∙ c.in_default.is)

pub returns-clause-cell : goal.returns-clause-cell
returns-clause-cell g c =
    let can : CanGrant g.R.Routing.answer c.args.cell.now c.in-Some.out c.input-port.result = (c.asks.ensures c.input-port.result).0 (c.contains.ensures.0 c.if-not-contains.false) in
    subst (λ k. IsSwitchFor g.R.Routing.answer g.A.Arbiter.ports c.args.network.now c.args.w k) (sym c.grant_to.ensures)
    (granting.kept_granted g.R.Routing.answer g.A.Arbiter.ports c.args.network.now c.args.w c.args.cell.now c.requires.cell c.args.channel c.input-port.result c.in-Some.out c.input-port.ensures can)

pub returns-clause-made : goal.returns-clause-made
returns-clause-made g c = λ b.
    let can : CanGrant g.R.Routing.answer c.args.cell.now c.in-Some.out c.input-port.result = (c.asks.ensures c.input-port.result).0 (c.contains.ensures.0 c.if-not-contains.false) in
    let starts = granting.found_at c.args.w c.in-Some.out _ (sym c.output_port.ensures ∙ c.in-Some.is) in
    subst (λ k. SwitchMakes c.args.network.now c.args.w c.args.cell.now b (Grant c.args.output c.args.channel) true k b) (sym c.grant_to.ensures)
    (granting.grant_made g.R.Routing.answer g.A.Arbiter.ports c.args.network.now c.args.w c.args.cell.now c.requires.cell b c.args.channel c.input-port.result c.args.output c.in-Some.out c.input-port.ensures starts can)

pub grant_to-requires : goal.grant_to-requires
grant_to-requires g c = (c.asks.ensures c.input-port.result).0 (c.contains.ensures.0 c.if-not-contains.false)

pub returns-then-not-contains-clause-made : goal.returns-then-not-contains-clause-made
returns-then-not-contains-clause-made g c = λ b.
    let never = λ (can : CanGrant g.R.Routing.answer c.args.cell.now c.in-Some.out c.input-port.result). false≢true (sym c.if-not-contains.true ∙ c.contains.ensures.1 ((c.asks.ensures c.input-port.result).1 can)) in
    let starts = granting.found_at c.args.w c.in-Some.out _ (sym c.output_port.ensures ∙ c.in-Some.is) in
    granting.grant_not g.R.Routing.answer g.A.Arbiter.ports c.args.network.now c.args.w c.args.cell.now c.requires.cell b c.args.channel c.input-port.result c.args.output c.in-Some.out c.input-port.ensures starts never
