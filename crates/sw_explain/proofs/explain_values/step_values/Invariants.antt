use Rattle.std.proofs.Common.{◌≡◌, map}
use Rattle.serde_json.specs.View.{view}
use Rattle.sw_explain.proofs.StepValues.{first_steps}
use Rattle.sw_explain.proofs.explain_values.step_values.Given as goal

abbrev pub invariant-loop-i : goal.invariant-loop-i
invariant-loop-i l = map view l.values.items ≡ first_steps l.network l.i l.channels l.causes l.flows
