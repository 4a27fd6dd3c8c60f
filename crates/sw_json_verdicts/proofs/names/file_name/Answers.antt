use Rattle.std.proofs.Common.{arith}
use Rattle.sw_json_verdicts.proofs.FileNames.{behind_last}
use Rattle.sw_json_verdicts.proofs.names.file_name.Goals as goal

pub returns-in-Some : goal.returns-in-Some
returns-in-Some c = let told = behind_last 47 c.args.path.now c.rsplit_once.result c.rsplit_once.ensures.cases (omega arith) in rw c.in-Some.is at told

pub returns-in-None : goal.returns-in-None
returns-in-None c = let told = behind_last 47 c.args.path.now c.rsplit_once.result c.rsplit_once.ensures.cases (omega arith) in rw c.in-None.is at told
