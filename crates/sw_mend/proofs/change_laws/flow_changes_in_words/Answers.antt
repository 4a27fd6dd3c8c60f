use Rattle.sw_mend.proofs.ChangesInWords.{flow_changes_in_words}
use Rattle.sw_mend.proofs.change_laws.flow_changes_in_words.Goals as goal

pub returns : goal.returns
returns c = flow_changes_in_words
