use Rattle.std.proofs.Common.{ap, arith, sym, ◌∙◌, ◌≡◌}
use Rattle.std.specs.Prelude.{option_map}
use Rattle.sw_cell.proofs.Network.{into_is, nodes_are, out_is}
use Rattle.sw_net.proofs.changed_ends.node_end.Goals as goal
use Rattle.sw_topo.specs.Wiring.{Wiring, out, partner}

pub returns-then-node-nodes : goal.returns-then-node-nodes
returns-then-node-nodes c =
    let all = nodes_are c.args.network.now in
    let count = c.nodes.ensures.count in
    let past = c.if-node-nodes.true in
    omega arith

pub returns : goal.returns
returns c =
    let d = c.args.network.now in
    let is : c.new.result ≡ c.out-out.result = c.new.ensures ∙ c.number.ensures in
    let at = ap (λ (w : Wiring). out w.ends c.args.node) (sym c.topology.ensures.wiring) ∙ c.out-out.ensures.channel in
    (out_is d c.args.node _ at ∙ sym is, into_is d c.args.node _ (ap (option_map partner) at) ∙ ap partner (sym is))
