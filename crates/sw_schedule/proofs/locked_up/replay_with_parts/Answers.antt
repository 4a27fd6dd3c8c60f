use Rattle.std.proofs.Common.{subst}
use Rattle.std.specs.Global.{Vec}
use Rattle.std.specs.Prelude.{IfOk, option_map}
use Rattle.sw_config.specs.Entries.{Declaration}
use Rattle.sw_net.specs.declared.part.Part.{Part}
use Rattle.sw_schedule.proofs.NetSteps.{new_here}
use Rattle.sw_schedule.specs.Locked.{TellsLocked}
use Rattle.sw_schedule.specs.Replays.{IsReplayed}
use Rattle.sw_schedule.specs.Reports.{report_of}
use Rattle.sw_schedule.proofs.locked_up.replay_with_parts.Goals as goal

pub replay_on_with_parts-told-requires : goal.replay_on_with_parts-told-requires
replay_on_with_parts-told-requires c = new_here c.args.network.now c.in_ok-net.net c.in_ok-net.ensures.new

pub returns-clause-replayed : goal.returns-clause-replayed
returns-clause-replayed c =
    subst (λ (d : Declaration). IfOk c.replay_on_with_parts-told.result (λ r. IsReplayed d c.args.schedule.now (report_of r.0)))
    c.in_ok-net.ensures.new.network c.replay_on_with_parts-told.ensures.replayed

pub returns-clause-parts : goal.returns-clause-parts
returns-clause-parts c =
    subst (λ (d : Declaration). IfOk c.replay_on_with_parts-told.result (λ r. TellsLocked d c.args.schedule.now (option_map (λ (all : Vec Part). all.items) r.1)))
    c.in_ok-net.ensures.new.network c.replay_on_with_parts-told.ensures.parts
