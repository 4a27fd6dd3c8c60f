use Rattle.std.proofs.Common.{sym, ◌∙◌, ap, arith}
use Rattle.std.specs.List.{list_any, range_with_len}
use Rattle.sw_graph.specs.Rounds.{is_marked}
use Rattle.sw_linter.proofs.Ranges.{any_here, none_here}
use Rattle.sw_linter.proofs.tables.is_any_marked.Goals as goal

pub returns-then-is_marked : goal.returns-then-is_marked
returns-then-is_marked c = sym (any_here (is_marked c.args.marks.now) c.args.from c.args.count c.loop-step.step c.loop-step-test.true (sym c.is_marked.ensures ∙ c.if-is_marked.true))

pub loop-step-preserved : goal.loop-step-preserved
loop-step-preserved c = none_here (is_marked c.args.marks.now) c.args.from c.loop-step.step c.loop-step.invariant (sym c.is_marked.ensures ∙ c.if-is_marked.false)

pub returns : goal.returns
returns c = sym (ap (λ k. list_any (is_marked c.args.marks.now) (range_with_len c.args.from k)) (omega (arith, c.loop-step-test.false, c.loop-step.auto.step-end)) ∙ c.loop-step.invariant)
