use Rattle.std.proofs.Common.{◌≡◌}
use Rattle.std.specs.List.{range_with_len}
use Rattle.sw_journal.proofs.opening.ends_of.Given as goal
use Rattle.sw_journal.specs.Opening.{numbered_of}
use Rattle.sw_machine.specs.State.{empty}
use Rattle.sw_machine.specs.Model.{network_of}

abbrev pub invariant-loop-number : goal.invariant-loop-number
invariant-loop-number l = l.ends.items ≡ numbered_of (network_of l.net.declared) (empty (network_of l.net.declared)) l.id (range_with_len 0 l.number)
