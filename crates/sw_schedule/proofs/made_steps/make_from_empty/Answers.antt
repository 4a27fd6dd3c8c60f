use Rattle.std.proofs.Common.{ap, length, ◌∙◌}
use Rattle.sw_config.specs.Entries.{Declaration}
use Rattle.sw_net.specs.Unanswered.{nothing_counted}
use Rattle.sw_schedule.proofs.NetSteps.{ends_from_made}
use Rattle.sw_schedule.proofs.made_steps.make_from_empty.Goals as goal

pub returns-clause-ends : goal.returns-clause-ends
returns-clause-ends c =
    let none = c.in_ok-unanswered.ensures ∙ ap (λ (d : Declaration). nothing_counted (length d.nodes)) c.network.ensures.network in
    ends_from_made c.args.net.now.declared c.args.net.now c.make_all.new.net c.in_ok-unanswered.unanswered c.make_all.new.unanswered _ c.make_all.result c.requires.empty c.network.ensures.sound.valid none c.requires.few c.make_all.ensures.ends
