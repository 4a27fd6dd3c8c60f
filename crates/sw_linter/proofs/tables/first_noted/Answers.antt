use Rattle.std.proofs.Common.{sym, ◌∙◌, ap, arith}
use Rattle.std.specs.List.{range_with_len}
use Rattle.sw_linter.specs.Lints.{first_made}
use Rattle.sw_linter.specs.Marks.{note_at}
use Rattle.sw_linter.proofs.Ranges.{first_here, none_made}
use Rattle.sw_linter.proofs.tables.first_noted.Goals as goal

pub returns-in-Some : goal.returns-in-Some
returns-in-Some c = first_here (note_at c.args.notes.now) c.args.from c.args.count c.loop-step.step c.in-Some.found c.loop-step-test.true c.loop-step.invariant (sym c.in-Some.ensures)

pub loop-step-preserved : goal.loop-step-preserved
loop-step-preserved c = none_made (note_at c.args.notes.now) c.args.from c.loop-step.step c.loop-step.invariant (sym c.in_default.ensures)

pub returns : goal.returns
returns c = sym (ap (λ k. first_made (note_at c.args.notes.now) (range_with_len c.args.from k)) (omega (arith, c.loop-step-test.false, c.loop-step.auto.step-end)) ∙ c.loop-step.invariant)
