use Rattle.std.proofs.Common.{◌≡◌, map, take}
use Rattle.serde_json.specs.View.{view}
use Rattle.sw_changes.specs.MarginValues.{loss_values}
use Rattle.sw_changes.proofs.margin_values.loss_list.Given as goal

abbrev pub invariant-loop-link : goal.invariant-loop-link
invariant-loop-link l = map view l.values.items ≡ loss_values l.network 0 (map (λ flows. flows.items) (take l.link l.losses))
