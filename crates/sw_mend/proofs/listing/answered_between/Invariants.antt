use Rattle.std.proofs.Common.{◌≡◌, ◌≤◌, take}
use Rattle.sw_mend.specs.Changes.{answered_between}
use Rattle.sw_mend.proofs.listing.answered_between.Given as goal

abbrev pub invariant-loop-number : goal.invariant-loop-number
invariant-loop-number l = (l.count ≡ answered_between l.from l.to (take l.number l.network.flows)) × (l.count ≤ l.number)
