use Rattle.std.proofs.Common.{sym, ◌∙◌, subst, arith}
use Rattle.std.proofs.lemmas.Bool.{false≢true}
use Rattle.std.proofs.lemmas.Option.{same_Some, slice_get_within}
use Rattle.sw_config.specs.Entries.{FlowEntry, all_flows}
use Rattle.sw_flow.specs.Ways.{GoesFromStart}
use Rattle.sw_cycle.proofs.check.is_flow_cause.Goals as goal

pub returns-then-flow-flows : goal.returns-then-flow-flows
returns-then-flow-flows c = (
  λ t. absurd (false≢true t),
  λ cause. let within = slice_get_within (all_flows c.args.network.now) c.args.flow cause.flow cause.numbered in absurd (omega (arith, within, c.if-flow-flows.true, c.flows.ensures.count)),
)

pub returns-then-ends_on : goal.returns-then-ends_on
returns-then-ends_on c =
    let d = c.args.network.now in
    let f = c.flow.result.now in
    let goes = c.goes_from_start.ensures in (
      λ t. record { flow = f; numbered = c.flow.ensures.flow; goes = goes.0 t; ends_on = c.ends_on.ensures.0 c.if-ends_on.true },
      λ cause. goes.1 (subst (λ (g : FlowEntry). GoesFromStart d g c.args.places.now) (same_Some cause.flow f (sym cause.numbered ∙ c.flow.ensures.flow)) cause.goes),
    )

pub returns-else-ends_on : goal.returns-else-ends_on
returns-else-ends_on c = (λ t. absurd (false≢true (sym c.if-ends_on.false ∙ t)), λ cause. c.ends_on.ensures.1 cause.ends_on)
