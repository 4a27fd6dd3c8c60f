use Rattle.sw_circles.proofs.Lawful.{told_in_words}
use Rattle.sw_circles.proofs.laws.told_in_words.Goals as goal

pub returns : goal.returns
returns c = told_in_words
