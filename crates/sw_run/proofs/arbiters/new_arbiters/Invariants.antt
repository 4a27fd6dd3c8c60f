use Rattle.std.proofs.Common.{All, length, ◌≡◌}
use Rattle.sw_journal.specs.Policies.{IsNewFor}
use Rattle.sw_run.proofs.arbiters.new_arbiters.Given as goal

abbrev pub invariant-loop-number : goal.invariant-loop-number
invariant-loop-number l = (length l.all.items ≡ l._number) × All (IsNewFor l.network l.w) l.all.items
