use Rattle.sw_circles.proofs.Lawful.{arrives_in_words}
use Rattle.sw_circles.proofs.laws.arrives_in_words.Goals as goal

pub returns : goal.returns
returns c = arrives_in_words
