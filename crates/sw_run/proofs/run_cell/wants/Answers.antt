use Rattle.std.proofs.Common.{None, Some, false, refl, sym, ◌∙◌}
use Rattle.sw_run.proofs.Wanted.{tells}
use Rattle.sw_run.proofs.run_cell.wants.Goals as goal

pub returns-in-Some-clause-may_follow : goal.returns-in-Some-clause-may_follow
returns-in-Some-clause-may_follow c = tells c.args.cell.now c.args.end (Some c.in-Some.numbers) c.wants_fct.result (sym c.in-Some.is ∙ c.numbers.ensures) c.wants_fct.ensures

pub returns-in-None-clause-may_follow : goal.returns-in-None-clause-may_follow
returns-in-None-clause-may_follow c = tells c.args.cell.now c.args.end None false (sym c.in-None.is ∙ c.numbers.ensures) refl
