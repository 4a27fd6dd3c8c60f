use Rattle.std.proofs.Common.{◌∙◌, ◌+◌, ◌*◌, length}
use Rattle.sw_flow.specs.Numbers.{next_numbers}
use Rattle.sw_flow.proofs.Walked.{all_pushed, followers_numbered}
use Rattle.sw_flow.proofs.steps.FlowStepsSteps.push_next.Goals as goal

pub returns : goal.returns
returns c =
    all_pushed (λ p. p.channel * (length c.address.result.now + 1) + p.deleted) c.loop-place.to.items c.args.to.now.items c.loop-place.place-iterator c.into_iter-place-iterator.result (next_numbers c.args.self.now.network.now c.args.self.now.flow.now c.args.number)
    c.loop-place.invariant c.in-None.ensures.steps.0
    (followers_numbered c.args.self.now.network.now c.args.self.now.flow.now c.args.number c.address.result.now c.place_of-at.result c.into_iter-place-iterator.result c.address.ensures c.place_of-at.ensures (c.into_iter-place-iterator.ensures.into_iter_gives ∙ c.followers_in-place-items.ensures))
