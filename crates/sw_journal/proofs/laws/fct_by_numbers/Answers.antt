use Rattle.sw_journal.proofs.FctNumbers.{decided, known}
use Rattle.sw_journal.proofs.laws.fct_by_numbers.Goals as goal

pub returns : goal.returns
returns c = record { decided = decided; known = known }
