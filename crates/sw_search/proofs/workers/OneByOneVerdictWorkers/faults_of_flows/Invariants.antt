use Rattle.std.specs.List.{AllZip, range_with_len}
use Rattle.sw_search.specs.Lists.{IsFirstFault}
use Rattle.sw_search.proofs.workers.OneByOneVerdictWorkers.faults_of_flows.Given as goal

abbrev pub invariant-loop-number : goal.invariant-loop-number
invariant-loop-number l = AllZip (IsFirstFault l.network) (range_with_len 0 l.number) l.faults.items
