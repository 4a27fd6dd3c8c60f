use Rattle.sw_search.proofs.Verdicts.{of_the_verdict}
use Rattle.sw_search.proofs.explanation_laws.explanations_are_of_the_verdict.Goals as goal

pub returns : goal.returns
returns c = of_the_verdict
