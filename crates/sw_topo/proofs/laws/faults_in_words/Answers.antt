use Rattle.sw_topo.proofs.InWords as words
use Rattle.sw_topo.proofs.laws.faults_in_words.Goals as goal

pub returns : goal.returns
returns c = words.faults_in_words
