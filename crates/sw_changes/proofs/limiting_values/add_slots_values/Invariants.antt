use Rattle.std.proofs.Common.{◌≡◌, ◌++◌, map, take}
use Rattle.serde_json.specs.View.{view}
use Rattle.sw_changes.specs.LimitingValues.{target_slots_value}
use Rattle.sw_changes.proofs.limiting_values.add_slots_values.Given as goal

abbrev pub invariant-loop-more : goal.invariant-loop-more
invariant-loop-more l = map view l.values.items ≡ map view l.initial.values.items ++ map (target_slots_value l.network) (take l.more-index l.slots)
