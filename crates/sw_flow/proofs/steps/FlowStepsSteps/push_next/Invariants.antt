use Rattle.std.proofs.Common.{◌≡◌, ◌+◌, ◌*◌, ◌++◌, map}
use Rattle.sw_flow.proofs.steps.FlowStepsSteps.push_next.Given as goal

abbrev pub invariant-loop-place : goal.invariant-loop-place
invariant-loop-place l =
    l.to.items ++ map (λ p. p.channel * l.width + p.deleted) l.place-iterator ≡ l.initial.to.items ++ map (λ p. p.channel * l.width + p.deleted) l.initial.place-iterator
