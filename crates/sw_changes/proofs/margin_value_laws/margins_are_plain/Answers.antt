use Rattle.sw_changes.proofs.MarginPlain.{margins_plain}
use Rattle.sw_changes.proofs.margin_value_laws.margins_are_plain.Goals as goal

pub returns : goal.returns
returns c = margins_plain
