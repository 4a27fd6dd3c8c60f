-- Where no node and no flow has a limit by its declaration, no node has one in the machine.
use Rattle.sw_config.proofs.Limits.{no_limit_at}
use Rattle.sw_machine.specs.Model.{network_of}
use Rattle.sw_machine.specs.ModelLaws.{WithoutOutstandingNoLimits}

pub without_outstanding_no_limits : WithoutOutstandingNoLimits
unfolding network_of
without_outstanding_no_limits d valid none n = no_limit_at d none valid.flows n
