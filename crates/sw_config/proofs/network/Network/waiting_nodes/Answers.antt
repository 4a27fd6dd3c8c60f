use Rattle.std.proofs.Common.{[], ◌∷◌, ◌++◌, sym, zero-add, ◌∙◌}
use Rattle.std.proofs.lemmas.List.FromFn.{map-range_with_len_more}
use Rattle.sw_config.specs.Limits.{may_make_wait}
use Rattle.sw_config.proofs.network.Network.waiting_nodes.Goals as goal

pub loop-node-preserved : goal.loop-node-preserved
loop-node-preserved c =
    let test = may_make_wait c.args.self.now in
    let node = c.loop-node.node in
    c.in_ok-push.ensures.items
    ∙ (λ i. c.loop-node.invariant i ++ c.may_make_wait.ensures i ∷ [])
    ∙ sym (map-range_with_len_more test 0 node node (zero-add node))
