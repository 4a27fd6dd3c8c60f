use Rattle.std.proofs.Common.{sym, ◌∙◌}
use Rattle.sw_cell.proofs.Granting as granting
use Rattle.sw_cell.proofs.Telling as telling
use Rattle.sw_cell.proofs.switch.can_grant.Goals as goal

pub returns-in-None : goal.returns-in-None
returns-in-None g c = λ b.
    (granting.grant_elsewhere g.R.Routing.answer g.A.Arbiter.ports c.args.network.now c.args.w c.args.cell.now c.requires.cell b c.args.channel c.input-port.result c.args.output c.input-port.ensures (sym c.output_port.ensures ∙ c.in-None.is)).0

pub returns-in-Some : goal.returns-in-Some
returns-in-Some g c = λ b.
    let starts = granting.found_at c.args.w c.in-Some.out _ (sym c.output_port.ensures ∙ c.in-Some.is) in
    let asks = c.asks.ensures c.input-port.result in
    telling.port_grant g.R.Routing.answer g.A.Arbiter.ports c.args.network.now c.args.w c.args.cell.now c.requires.cell b c.args.channel c.input-port.result c.contains.result c.args.output c.in-Some.out c.input-port.ensures starts
    (λ yes. asks.0 (c.contains.ensures.0 yes), λ can. c.contains.ensures.1 (asks.1 can))
