use Rattle.std.proofs.Common.{◌≡◌, map, take}
use Rattle.serde_json.specs.View.{view}
use Rattle.sw_json.specs.PlaceValues.{flow_name_value}
use Rattle.sw_json.proofs.lists.flow_name_values.Given as goal

abbrev pub invariant-loop-flow : goal.invariant-loop-flow
invariant-loop-flow l = map view l.values.items ≡ map (flow_name_value l.network) (take l.flow-index l.flows)
