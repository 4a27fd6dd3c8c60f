use Rattle.std.proofs.Common.{ap, is_some, refl}
use Rattle.sw_margin.specs.FlowLimits.{IsFlowLimit, own_limit}
use Rattle.sw_margin.proofs.Picked.{chosen_told, not_chosen}
use Rattle.sw_margin.proofs.limits.flow_limits.Goals as goal

pub loop-flow-preserved : goal.loop-flow-preserved
loop-flow-preserved g c =
    let d = c.args.network.now in
    chosen_told (IsFlowLimit d) (λ flow. is_some (own_limit d flow)) c.loop-flow.flow c.loop-flow.told.items _ _ (is_some c.own_limit.result) c.loop-flow.invariant
    (ap is_some c.own_limit.ensures) (ap is_some c.in-Some.is) (refl, c.in_ok-most.ensures) c.in_ok-push.ensures.items

pub loop-flow-preserved-in_default : goal.loop-flow-preserved-in_default
loop-flow-preserved-in_default g c =
    let d = c.args.network.now in
    not_chosen (IsFlowLimit d) (λ flow. is_some (own_limit d flow)) c.loop-flow.flow c.loop-flow.told.items (is_some c.own_limit.result) c.loop-flow.invariant (ap is_some c.own_limit.ensures) (ap is_some c.in_default.is)
