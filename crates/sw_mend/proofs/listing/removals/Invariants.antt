use Rattle.std.proofs.Common.{◌≡◌, flat_map, take}
use Rattle.sw_mend.specs.Kinds.{kind_away}
use Rattle.sw_mend.proofs.listing.removals.Given as goal

abbrev pub invariant-loop-kind : goal.invariant-loop-kind
invariant-loop-kind l = l.changes.items ≡ flat_map (kind_away l.network) (take l.kind-index l.kinds)
