use Rattle.std.proofs.Common.{◌≡◌, map, take}
use Rattle.serde_json.specs.View.{view}
use Rattle.sw_changes.specs.MarginValues.{flow_limit_value}
use Rattle.sw_changes.proofs.margin_values.limit_list.Given as goal

abbrev pub invariant-loop-limit : goal.invariant-loop-limit
invariant-loop-limit l = map view l.values.items ≡ map (flow_limit_value l.network) (take l.limit-index l.limits)
