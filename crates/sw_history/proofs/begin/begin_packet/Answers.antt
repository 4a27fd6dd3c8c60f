use Rattle.std.proofs.Common.{Ok, ap, subst, ◌∙◌}
use Rattle.std.specs.Prelude.{Err}
use Rattle.sw_history.proofs.Steps.{not_refused, not_undeclared}
use Rattle.sw_history.proofs.begin.begin_packet.Goals as goal
use Rattle.sw_machine.specs.Steps.{Step}
use Rattle.sw_net.specs.Net.{NetAnswers}
use Rattle.sw_net.specs.Unanswered.{HasCounted}

pub returns-in-Ok-clause-made : goal.returns-in-Ok-clause-made
returns-in-Ok-clause-made g c = subst (λ (k : Step). NetAnswers c.args.net.now k (Ok tt) c.step-made.new.net) c.in_ok-begin.ensures c.in-Ok.ensures.answers

pub returns-in-Ok-clause-counted : goal.returns-in-Ok-clause-counted
returns-in-Ok-clause-counted g c = subst (λ (k : Step). HasCounted c.args.net.now c.args.unanswered.now k c.step-made.new.net c.step-made.new.self) c.in_ok-begin.ensures c.in-Ok.ensures.counted

pub unreachable-requires : goal.unreachable-requires
unreachable-requires g c =
    let v = c.args.net.now in
    let p = c.args.packet.now in
    let answers = subst (λ (k : Step). NetAnswers v k c.step-made.result c.step-made.new.net) c.in_ok-begin.ensures c.step-made.ensures.answers in
    not_refused g.R.Routing.answer g.A.Arbiter.ports g.A.Arbiter.policy v c.network-network.ensures.sound p.flow p.cargo p.marker c.requires c.step-made.result c.step-made.new.net answers (c.in-Err.is ∙ ap Err c.in-NotEnabled.is)

pub unreachable-requires-in-NotInFlow : goal.unreachable-requires-in-NotInFlow
unreachable-requires-in-NotInFlow g c =
    let v = c.args.net.now in
    let p = c.args.packet.now in
    let answers = subst (λ (k : Step). NetAnswers v k c.step-made.result c.step-made.new.net) c.in_ok-begin.ensures c.step-made.ensures.answers in
    not_undeclared g.R.Routing.answer g.A.Arbiter.ports g.A.Arbiter.policy v c.network-network.ensures.sound p.flow p.cargo p.marker c.requires c.step-made.result c.step-made.new.net answers (c.in-Err.is ∙ ap Err c.in-NotInFlow.is)
