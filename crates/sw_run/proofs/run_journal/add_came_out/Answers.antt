use Rattle.sw_run.proofs.Out.{out_more, out_none}
use Rattle.sw_run.proofs.run_journal.add_came_out.Goals as goal

pub loop-node-init : goal.loop-node-init
loop-node-init c = λ s leads. out_none (λ packets. packets.items) s c.args.all.now.items c.requires.none

pub loop-node-preserved : goal.loop-node-preserved
loop-node-preserved c = λ s leads.
    out_more (λ packets. packets.items) s c.loop-node.node c.loop-node.all.items _ c.in_ok-came_out.field-0 (c.loop-node.invariant s leads) (c.in_ok-came_out.ensures s leads) c.in_ok-push.ensures.items
