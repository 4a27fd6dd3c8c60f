use Rattle.std.proofs.Common.{◌≡◌}
use Rattle.sw_arb.specs.Chosen.{policy_ports}
use Rattle.test_runs.proofs.parts.arbiters.pick.Given as goal

abbrev pub invariant-loop-asking : goal.invariant-loop-asking
invariant-loop-asking l = policy_ports l.arbiter ≡ l.all

abbrev pub invariant-loop-port : goal.invariant-loop-port
invariant-loop-port l = policy_ports l.arbiter ≡ l.all
