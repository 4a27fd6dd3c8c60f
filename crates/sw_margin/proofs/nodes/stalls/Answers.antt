use Rattle.std.proofs.Common.{ap, not}
use Rattle.sw_config.specs.Limits.{may_make_wait}
use Rattle.sw_margin.specs.Bends.{IsStall}
use Rattle.sw_margin.proofs.Picked.{chosen_told, not_chosen}
use Rattle.sw_margin.proofs.nodes.stalls.Goals as goal

pub loop-node-preserved : goal.loop-node-preserved
loop-node-preserved g c =
    let d = c.args.network.now in
    chosen_told (IsStall d) (λ n. not (may_make_wait d n)) c.loop-node.node c.loop-node.told.items _ _ (not c.may_make_wait.result) c.loop-node.invariant (ap not c.may_make_wait.ensures) (ap not c.if-may_make_wait.false) c.in_ok-told_of.ensures c.in_ok-push.ensures.items

pub loop-node-preserved-then-may_make_wait : goal.loop-node-preserved-then-may_make_wait
loop-node-preserved-then-may_make_wait g c =
    let d = c.args.network.now in
    not_chosen (IsStall d) (λ n. not (may_make_wait d n)) c.loop-node.node c.loop-node.told.items (not c.may_make_wait.result) c.loop-node.invariant (ap not c.may_make_wait.ensures) (ap not c.if-may_make_wait.true)
