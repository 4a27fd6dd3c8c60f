use Rattle.std.proofs.Common.{Ok, ap, ◌∙◌}
use Rattle.sw_history.proofs.Steps.{has_moved, not_idle}
use Rattle.sw_history.proofs.moves.move_one.Goals as goal

pub unreachable-requires : goal.unreachable-requires
unreachable-requires g c =
    not_idle g.R.Routing.answer g.A.Arbiter.ports g.A.Arbiter.policy c.args.net.now c.network-network.ensures.sound c.in-Some.end c.in-Some.ensures.chosen.0 c.step_of.result c.step_of.new.net c.step_of.ensures.moves (c.in-Ok.is ∙ ap Ok c.in-None.is)

pub returns-in-Some-made-clause-moves : goal.returns-in-Some-made-clause-moves
returns-in-Some-made-clause-moves g c =
    let moved = has_moved g.R.Routing.answer g.A.Arbiter.policy c.args.net.now c.step_of.new.net c.args.unanswered.now c.step_of.new.self c.in-Some.end c.step_of.result c.in-Some-made.field-0 c.step_of.ensures.moves c.step_of.ensures.counted (c.in-Ok.is ∙ ap Ok c.in-Some-made.is) in
    ((c.in-Some.end, c.in-Some.ensures.chosen, moved.0), moved.1)
