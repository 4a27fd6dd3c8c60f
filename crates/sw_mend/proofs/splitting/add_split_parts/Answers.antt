use Rattle.std.proofs.Common.{length, ap, arith, ◌∙◌}
use Rattle.std.proofs.lemmas.Result.{IfOk-weaker}
use Rattle.sw_config.specs.Entries.{Declaration}
use Rattle.sw_mend.proofs.Named.{named_with_own}
use Rattle.sw_mend.proofs.Rewired.{count_with_own, no_node_named, only_nodes, own_node_built, parts_split, same_switches}
use Rattle.sw_mend.proofs.splitting.add_split_parts.Goals as goal

pub add_node-requires-clause-few : goal.add_node-requires-clause-few
add_node-requires-clause-few c =
    let same = ap (λ (d : Declaration). length d.nodes) c.in_ok-add_nodes.ensures in
    omega (arith, same, c.requires.few)

pub add_node-requires-clause-nodes_first : goal.add_node-requires-clause-nodes_first
add_node-requires-clause-nodes_first c = ap (λ (d : Declaration). d.switches) c.in_ok-add_nodes.ensures

pub add_node-requires-clause-new_name : goal.add_node-requires-clause-new_name
add_node-requires-clause-new_name c = no_node_named c.args.network.now _ _ c.in_ok-add_nodes.ensures c.requires.new_name

pub add_switches-requires-clause-named : goal.add_switches-requires-clause-named
add_switches-requires-clause-named c =
    let own = own_node_built c.args.network.now _ _ c.args.link.now.node _ _ c.requires.link.node c.requires.name c.target.ensures.target c.in_ok-add_nodes.ensures c.in_ok-add_node.ensures.ok in
    named_with_own c.args.network.now _ c.args.link.now.node _ c.requires.link.node c.requires.name (ap (λ (d : Declaration). d.nodes) own)
    c.topology-topology.ensures.valid.parts_named c.requires.new_name

pub add_switches-requires-clause-none : goal.add_switches-requires-clause-none
add_switches-requires-clause-none c =
    only_nodes _ _
    (own_node_built c.args.network.now _ _ c.args.link.now.node _ _ c.requires.link.node c.requires.name c.target.ensures.target c.in_ok-add_nodes.ensures c.in_ok-add_node.ensures.ok)

pub add_links-requires-clause-nodes : goal.add_links-requires-clause-nodes
add_links-requires-clause-nodes c =
    let own = own_node_built c.args.network.now _ _ c.args.link.now.node _ _ c.requires.link.node c.requires.name c.target.ensures.target c.in_ok-add_nodes.ensures c.in_ok-add_node.ensures.ok in
    let more = count_with_own c.args.network.now _ _ c.args.link.now.node c.requires.link.node own (ap (λ (d : Declaration). d.nodes) c.in_ok-add_switches.ensures) in
    omega (arith, more)

pub add_links-requires-clause-switches : goal.add_links-requires-clause-switches
add_links-requires-clause-switches c =
    ap (λ (d : Declaration). length d.switches) (same_switches c.args.network.now _ _ c.in_ok-add_switches.ensures)

pub add_links-requires-clause-none : goal.add_links-requires-clause-none
add_links-requires-clause-none c = ap (λ (d : Declaration). d.links) c.in_ok-add_switches.ensures

pub add_link-requires-clause-a_inside : goal.add_link-requires-clause-a_inside
add_link-requires-clause-a_inside c =
    let own = own_node_built c.args.network.now _ _ c.args.link.now.node _ _ c.requires.link.node c.requires.name c.target.ensures.target c.in_ok-add_nodes.ensures c.in_ok-add_node.ensures.ok in
    let same = ap (λ (d : Declaration). d.nodes) c.in_ok-add_links.ensures ∙ ap (λ (d : Declaration). d.nodes) c.in_ok-add_switches.ensures in
    let more = count_with_own c.args.network.now _ _ c.args.link.now.node c.requires.link.node own same in
    omega (arith, more, c.nodes.ensures.count)

pub add_link-requires-clause-b_inside : goal.add_link-requires-clause-b_inside
add_link-requires-clause-b_inside c =
    let now = ap (λ (d : Declaration). length d.switches) (same_switches c.args.network.now _ _ c.in_ok-add_switches.ensures) in
    let same = ap (λ (d : Declaration). length d.switches) c.in_ok-add_links.ensures in
    (omega (arith, now, same, c.requires.link.switch), omega (arith, c.number-port.ensures.value, c.number-port.ensures.within))

pub returns : goal.returns
returns c =
    let own = own_node_built c.args.network.now _ _ c.args.link.now.node _ _ c.requires.link.node c.requires.name c.target.ensures.target c.in_ok-add_nodes.ensures c.in_ok-add_node.ensures.ok in
    IfOk-weaker c.add_link.result _ _
    (λ _ e. parts_split c.args.network.now _ _ _ _ c.args.link.now _ own c.in_ok-add_switches.ensures c.in_ok-add_links.ensures c.nodes.ensures.count e)
    c.add_link.ensures.ok
