use Rattle.sw_mend.proofs.SplitsTried.{splits_in_words}
use Rattle.sw_mend.proofs.split_laws.splits_in_words.Goals as goal

pub returns : goal.returns
returns c = splits_in_words
