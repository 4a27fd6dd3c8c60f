use Rattle.std.proofs.Common.{length, ◌≡◌}
use Rattle.sw_net.proofs.make.empty_row.Given as goal

abbrev pub invariant-loop-port : goal.invariant-loop-port
invariant-loop-port g l = length l.row.items ≡ l.port
