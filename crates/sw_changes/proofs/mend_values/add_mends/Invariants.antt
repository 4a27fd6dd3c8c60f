use Rattle.std.proofs.Common.{◌≡◌, ◌++◌, map, take}
use Rattle.serde_json.specs.View.{view}
use Rattle.sw_changes.specs.MendValues.{mend_value}
use Rattle.sw_changes.proofs.mend_values.add_mends.Given as goal

abbrev pub invariant-loop-change : goal.invariant-loop-change
invariant-loop-change l = map view l.values.items ≡ map view l.initial.values.items ++ map (mend_value l.network) (take l.change-index l.changes)
