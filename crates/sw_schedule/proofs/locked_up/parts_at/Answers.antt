use Rattle.std.proofs.Common.{List, None, Option, Some, subst, sym}
use Rattle.sw_net.specs.declared.part.Part.{Part}
use Rattle.sw_schedule.proofs.LockedAt.{not_locked}
use Rattle.sw_schedule.specs.Locked.{TellsLockedAt}
use Rattle.sw_schedule.specs.declared.replayed.ReplayEnd.{ReplayEnd}
use Rattle.sw_schedule.proofs.locked_up.parts_at.Goals as goal

pub returns-in_ok-parts-in-Made : goal.returns-in_ok-parts-in-Made
returns-in_ok-parts-in-Made c =
    let parts : Option (List Part) = Some c.in_ok-parts-in-Made.field-0.items in
    subst (λ (p : ReplayEnd). TellsLockedAt c.args.net.now p parts) (sym c.in-Made.is)
    (λ s at. ((c.is_locked_up.ensures s at).0 c.if-is_locked_up.true, c.in_ok-parts-in-Made.ensures s at))

pub returns-else-is_locked_up : goal.returns-else-is_locked_up
returns-else-is_locked_up c =
    subst (λ (p : ReplayEnd). TellsLockedAt c.args.net.now p None) (sym c.in-Made.is)
    (not_locked c.args.net.now c.is_locked_up.result c.if-is_locked_up.false c.is_locked_up.ensures)
