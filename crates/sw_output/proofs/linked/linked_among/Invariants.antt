use Rattle.std.proofs.Common.{◌≡◌}
use Rattle.std.specs.List.{filter, range_with_len}
use Rattle.sw_output.specs.LinkedPorts.{has_link}
use Rattle.sw_output.proofs.linked.linked_among.Given as goal

abbrev pub invariant-loop-port : goal.invariant-loop-port
invariant-loop-port l = l.linked.items ≡ filter (has_link l.network l.switch) (range_with_len 0 l.port)
