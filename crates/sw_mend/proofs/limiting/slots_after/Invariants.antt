use Rattle.std.proofs.Common.{◌≡◌, take}
use Rattle.sw_mend.specs.Limitings.{slots_after}
use Rattle.sw_mend.proofs.limiting.slots_after.Given as goal

abbrev pub invariant-loop-more : goal.invariant-loop-more
invariant-loop-more l = l.count ≡ slots_after (take l.more-index l.slots) l.node l.before
