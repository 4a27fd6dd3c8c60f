use Rattle.std.proofs.Common.{◌≡◌, ◌++◌}
use Rattle.sw_mend.proofs.OfKinds.{away_below}
use Rattle.sw_mend.proofs.listing.add_all.Given as goal

abbrev pub invariant-loop-number : goal.invariant-loop-number
invariant-loop-number l = l.changes.items ≡ l.initial.changes.items ++ away_below l.network l.kind l.number
