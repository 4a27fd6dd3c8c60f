use Rattle.std.proofs.Common.{◌≡◌, ◌++◌, map, take}
use Rattle.serde_json.specs.View.{view}
use Rattle.sw_changes.specs.MendValues.{pair_value}
use Rattle.sw_changes.proofs.mend_values.add_pairs.Given as goal

abbrev pub invariant-loop-pair : goal.invariant-loop-pair
invariant-loop-pair l = map view l.values.items ≡ map view l.initial.values.items ++ map (pair_value l.network) (take l.pair-index l.pairs)
