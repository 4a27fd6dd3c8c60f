use Rattle.sw_linter.proofs.Strangers.{IsSeen}
use Rattle.sw_linter.proofs.addresses.is_stranger.Given as goal

abbrev pub invariant-loop-number : goal.invariant-loop-number
invariant-loop-number l = IsSeen l.network l.node l.address l.number l.is_known
