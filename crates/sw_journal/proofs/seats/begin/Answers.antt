use Rattle.sw_journal.proofs.Moves.{begins}
use Rattle.sw_journal.proofs.seats.begin.Goals as goal

pub of_words-requires : goal.of_words-requires
of_words-requires c = begins
