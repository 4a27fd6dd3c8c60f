use Rattle.sw_mend.proofs.MoreSlots.{all_slots, slots_more}
use Rattle.sw_mend.proofs.limiting.slots_after.Goals as goal

pub loop-more-preserved : goal.loop-more-preserved
loop-more-preserved c =
    slots_more c.args.slots.now c.loop-more.more-index c.args.node c.args.before c.loop-more.count _ _ c.loop-more-test.true c.loop-more.invariant c.slots_by-count.ensures
