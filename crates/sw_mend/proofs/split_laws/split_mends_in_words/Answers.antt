use Rattle.sw_mend.proofs.SplitsTold.{split_mends_in_words}
use Rattle.sw_mend.proofs.split_laws.split_mends_in_words.Goals as goal

pub returns : goal.returns
returns c = split_mends_in_words
