use Rattle.std.proofs.Common.{◌<◌, ◌≤◌, ℕ, Option, length, subst, sym, ◌∙◌, arith}
use Rattle.std.specs.Prelude.{IfSome}
use Rattle.sw_config.specs.Entries.{all_flows}
use Rattle.sw_cert.proofs.Leasts.{falling_all, falling_more, IfSome-lesser}
use Rattle.sw_cert.proofs.targets.least_falling.Goals as goal

pub loop-number-preserved : goal.loop-number-preserved
loop-number-preserved c = (
  falling_more c.args.network.now c.args.numbers.now (all_flows c.args.network.now) c.loop-number.number c.flow-entry.result.now c.loop-number.found c.lesser-found.result c.falling_end-end.result c.flow-entry.ensures.flow c.falling_end-end.ensures.end c.lesser-found.ensures
      ∙ c.loop-number.invariant.0,
  subst (λ (o : Option ℕ). IfSome o (λ n. n < length c.args.network.now.nodes)) (sym c.lesser-found.ensures)
      (IfSome-lesser (λ n. n < length c.args.network.now.nodes) c.loop-number.found c.falling_end-end.result c.loop-number.invariant.1 c.falling_end-end.ensures.within),
)

pub returns-clause-least : goal.returns-clause-least
returns-clause-least c =
    let past : length (all_flows c.args.network.now) ≤ c.loop-number.number = omega (arith, c.loop-number-test.false, c.loop-number.auto.number-end, c.flows-number-end.ensures.count) in
    falling_all c.args.network.now c.args.numbers.now c.loop-number.number c.loop-number.found c.flows-number-end.ensures.valid past c.loop-number.invariant.0
