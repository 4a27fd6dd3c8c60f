use Rattle.std.proofs.Common.{◌≡◌, string_bytes, subst, sym}
use Rattle.std.specs.Prelude.{IfOk}
use Rattle.sw_linter.specs.LintTexts.{lint_text}
use Rattle.sw_linter.proofs.texts.lint_text.Goals as goal

pub returns-in-WrongTarget : goal.returns-in-WrongTarget
returns-in-WrongTarget c = subst (λ lint. IfOk c.wrong_target.result (λ s. string_bytes s ≡ lint_text c.args.network.now lint)) (sym c.in-WrongTarget.is) c.wrong_target.ensures

pub returns-in-TwoInitiators : goal.returns-in-TwoInitiators
returns-in-TwoInitiators c = subst (λ lint. IfOk c.two_initiators.result (λ s. string_bytes s ≡ lint_text c.args.network.now lint)) (sym c.in-TwoInitiators.is) c.two_initiators.ensures
