use Rattle.std.specs.Prelude.{option_map}
use Rattle.sw_schedule.proofs.LockedAt.{told_at}
use Rattle.sw_schedule.proofs.locked_up.replay_on_with_parts.Goals as goal

pub returns-in-Ok-clause-parts : goal.returns-in-Ok-clause-parts
returns-in-Ok-clause-parts c =
    told_at c.args.net.now.declared c.replay_on.new.net c.args.schedule.now c.in_ok-replayed.ensures.network c.in_ok-replayed.replayed.outcome
    (option_map (λ all. all.items) c.in-Ok.parts) c.in_ok-replayed.ensures.ends c.in-Ok.ensures
