use Rattle.sw_json.proofs.PlainValues.{file_fault_plain}
use Rattle.sw_json.proofs.laws.file_faults_are_plain.Goals as goal

pub returns : goal.returns
returns c = file_fault_plain
