use Rattle.sw_linter.proofs.Worded.{told_in_words}
use Rattle.sw_linter.proofs.laws.told_in_words.Goals as goal

pub returns : goal.returns
returns c = told_in_words
