use Rattle.sw_json_verdicts.proofs.Dashes.{names_differ}
use Rattle.sw_json_verdicts.proofs.audit_laws.names_differ.Goals as goal

pub returns : goal.returns
returns c = names_differ
