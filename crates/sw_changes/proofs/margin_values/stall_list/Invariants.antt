use Rattle.std.proofs.Common.{◌≡◌, map, take}
use Rattle.serde_json.specs.View.{view}
use Rattle.sw_changes.specs.MarginValues.{stall_value}
use Rattle.sw_changes.proofs.margin_values.stall_list.Given as goal

abbrev pub invariant-loop-bend : goal.invariant-loop-bend
invariant-loop-bend l = map view l.values.items ≡ map (stall_value l.network) (take l.bend-index l.stalls)
