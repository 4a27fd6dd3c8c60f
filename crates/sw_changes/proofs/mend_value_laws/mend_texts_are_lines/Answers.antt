use Rattle.sw_changes.proofs.MendOnce.{mend_texts_are_lines}
use Rattle.sw_changes.proofs.mend_value_laws.mend_texts_are_lines.Goals as goal

pub returns : goal.returns
returns c = mend_texts_are_lines
