use Rattle.sw_topo.proofs.Converse as converse
use Rattle.sw_topo.proofs.laws.no_fault_means_faultless.Goals as goal

pub returns : goal.returns
returns c = converse.no_fault
