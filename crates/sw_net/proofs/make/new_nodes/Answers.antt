use Rattle.std.proofs.Common.{ap, arith, length, subst, sym, ◌<◌, ◌∙◌}
use Rattle.std.specs.Prelude.{option_map}
use Rattle.sw_cell.proofs.Network.{into_is}
use Rattle.sw_net.proofs.New.{if_ok, in_links, made_too, new_node_is}
use Rattle.sw_net.specs.New.{IsNewNode}
use Rattle.sw_net.proofs.make.new_nodes.Goals as goal
use Rattle.sw_topo.specs.Wiring.{Wiring, out, partner}

pub capacity-capacity-requires : goal.capacity-capacity-requires
capacity-capacity-requires c = in_links c.args.network.now c.into-into.result (subst (λ (w : Wiring). c.into-into.result < length w.ends) c.topology.ensures.wiring c.into-into.ensures.within)

pub loop-n-preserved : goal.loop-n-preserved
loop-n-preserved c =
    let d = c.args.network.now in
    let n = c.loop-n.n in
    let count = c.nodes-n-end.ensures.count in
    let test = c.loop-n-test.true in
    let within : n < length d.nodes = omega arith in
    let into = into_is d n c.into-into.result (ap (λ (w : Wiring). option_map partner (out w.ends n)) (sym c.topology.ensures.wiring) ∙ c.into-into.ensures.channel) in
    let is = new_node_is d c.topology.ensures.valid n c.into-into.result c.capacity-capacity.result c.target.result within c.target.ensures.target into c.capacity-capacity.ensures.capacity in
    let new = if_ok c.new.result (λ node e. subst (IsNewNode d n) (sym e) is) c.new.ensures in
    made_too (IsNewNode d) c.loop-n.nodes.items c.push_made.new.all.items c.new.result n c.loop-n.invariant.0 new c.in_ok-push_made.ensures c.loop-n.invariant.1
