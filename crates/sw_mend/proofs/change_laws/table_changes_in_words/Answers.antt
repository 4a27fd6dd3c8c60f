use Rattle.sw_mend.proofs.ChangesInWords.{table_changes_in_words}
use Rattle.sw_mend.proofs.change_laws.table_changes_in_words.Goals as goal

pub returns : goal.returns
returns c = table_changes_in_words
