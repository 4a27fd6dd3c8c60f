use Rattle.sw_flow.proofs.Faulty.{faults_are}
use Rattle.sw_flow.proofs.laws.faults_in_words.Goals as goal

pub returns : goal.returns
returns c = faults_are
