use Rattle.sw_margin.proofs.Exact.{unlimited_answers_are_exact}
use Rattle.sw_margin.proofs.laws.unlimited_answers_are_exact.Goals as goal

pub returns : goal.returns
returns c = unlimited_answers_are_exact
