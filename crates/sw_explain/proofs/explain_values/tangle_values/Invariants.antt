use Rattle.std.proofs.Common.{◌≡◌, map, take}
use Rattle.serde_json.specs.View.{view}
use Rattle.sw_explain.specs.ExplainValues.{tangle_value}
use Rattle.sw_explain.proofs.explain_values.tangle_values.Given as goal

abbrev pub invariant-loop-tangle : goal.invariant-loop-tangle
invariant-loop-tangle l = map view l.values.items ≡ map (tangle_value l.network) (take l.tangle-index l.tangles)
