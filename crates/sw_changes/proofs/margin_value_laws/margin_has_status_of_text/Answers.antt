use Rattle.sw_changes.proofs.MarginOnce.{margin_has_status_of_text}
use Rattle.sw_changes.proofs.margin_value_laws.margin_has_status_of_text.Goals as goal

pub returns : goal.returns
returns c = margin_has_status_of_text
