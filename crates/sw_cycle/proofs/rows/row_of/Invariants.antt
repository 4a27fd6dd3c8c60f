use Rattle.std.proofs.Common.{◌≡◌, ◌++◌}
use Rattle.sw_flow.specs.Followers.{outputs_of}
use Rattle.sw_cycle.proofs.rows.row_of.Given as goal

abbrev pub invariant-loop-port : goal.invariant-loop-port
invariant-loop-port l = l.row.items ++ outputs_of l.topology.ends l.switch l.port-iterator ≡ l.initial.row.items ++ outputs_of l.topology.ends l.switch l.initial.port-iterator
