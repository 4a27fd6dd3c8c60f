use Rattle.sw_json.proofs.PlainValues.{audit_plain}
use Rattle.sw_json.proofs.laws.audits_are_plain.Goals as goal

pub returns : goal.returns
returns c = audit_plain
