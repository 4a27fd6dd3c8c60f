use Rattle.std.proofs.Common.{ap, arith, length, subst, ◌*◌, ◌<◌, ◌≡◌}
use Rattle.sw_cell.proofs.Network.{nodes_are}
use Rattle.sw_config.specs.Entries.{Declaration}
use Rattle.sw_machine.specs.Model.{network_of}
use Rattle.sw_net.proofs.Delivered.{all_are, all_fits, channel_count, channels_fit, node_fits, node_is, nodes_fit, nodes_more}
use Rattle.sw_net.proofs.net.Net.undelivered.Goals as goal
use Rattle.sw_net.specs.Delivery.{IsAtNodes, IsInChannel, IsInChannels}

pub overflow_add-in_channels : goal.overflow_add-in_channels
overflow_add-in_channels g c =
    let all = channel_count c.args.self.now.declared in
    let same = ap (λ (k : Declaration). length k.links) c.network-network.ensures.network in
    let count = c.channels-number-end.ensures.count in
    let t = c.loop-number-test.true in
    let lt : c.loop-number.number < (network_of c.args.self.now.declared).channels = omega arith in
    let here = subst (λ k. IsInChannel c.args.self.now k c.in_channel-in_channels.result) c.new.ensures c.in_channel-in_channels.ensures in
    let fits = channels_fit g.R.Routing.answer g.A.Arbiter.ports c.args.self.now c.network-network.ensures.sound c.loop-number.number c.loop-number.in_channels c.in_channel-in_channels.result lt c.loop-number.invariant here in
    omega arith

pub undelivered-at_nodes-requires : goal.undelivered-at_nodes-requires
undelivered-at_nodes-requires g c =
    let all = nodes_are c.args.self.now.declared in
    let same = ap (λ (k : Declaration). length k.nodes) c.network-network.ensures.network in
    let count = c.nodes-n-end.ensures.count in
    let t = c.loop-n-test.true in
    let lt : c.loop-n.n < (network_of c.args.self.now.declared).nodes = omega arith in
    node_fits g.R.Routing.answer g.A.Arbiter.ports c.args.self.now c.network-network.ensures.sound c.loop-n.n c.node.result.now lt c.node.ensures

pub overflow_add-at_nodes : goal.overflow_add-at_nodes
overflow_add-at_nodes g c =
    let v = c.args.self.now in
    let all = nodes_are v.declared in
    let same = ap (λ (k : Declaration). length k.nodes) c.network-network.ensures.network in
    let count = c.nodes-n-end.ensures.count in
    let t = c.loop-n-test.true in
    let lt : c.loop-n.n < (network_of v.declared).nodes = omega arith in
    let here = node_is g.R.Routing.answer g.A.Arbiter.ports v c.network-network.ensures.sound c.loop-n.n c.node.result.now c.undelivered-at_nodes.result c.node.ensures c.undelivered-at_nodes.ensures in
    let fits = nodes_fit g.R.Routing.answer g.A.Arbiter.ports v c.network-network.ensures.sound c.loop-n.n c.loop-n.at_nodes c.undelivered-at_nodes.result lt c.loop-n.invariant here in
    omega arith

pub loop-n-preserved : goal.loop-n-preserved
loop-n-preserved g c =
    let v = c.args.self.now in
    let here = node_is g.R.Routing.answer g.A.Arbiter.ports v c.network-network.ensures.sound c.loop-n.n c.node.result.now c.undelivered-at_nodes.result c.node.ensures c.undelivered-at_nodes.ensures in
    nodes_more g.R.Routing.answer g.A.Arbiter.ports v c.network-network.ensures.sound c.loop-n.n c.loop-n.at_nodes c.undelivered-at_nodes.result c.loop-n.invariant here

pub overflow_add-result : goal.overflow_add-result
overflow_add-result g c =
    let v = c.args.self.now in
    let links = ap (λ (k : Declaration). length k.links) c.network-network.ensures.network in
    let nodes = ap (λ (k : Declaration). length k.nodes) c.network-network.ensures.network in
    let channel_end = c.channels-number-end.ensures.count in
    let channel_low = c.loop-number.auto.number-end in
    let channel_high = c.loop-number-test.false in
    let node_end = c.nodes-n-end.ensures.count in
    let node_low = c.loop-n.auto.n-end in
    let node_high = c.loop-n-test.false in
    let channels : c.loop-number.number ≡ 2 * length v.declared.links = omega arith in
    let all : c.loop-n.n ≡ length v.declared.nodes = omega arith in
    let fits = all_fits g.R.Routing.answer g.A.Arbiter.ports v c.network-network.ensures.sound c.loop-number.in_channels c.loop-n.at_nodes (subst (λ k. IsInChannels v k c.loop-number.in_channels) channels c.loop-number.invariant) (subst (λ k. IsAtNodes v k c.loop-n.at_nodes) all c.loop-n.invariant) in
    omega arith

pub returns : goal.returns
returns g c =
    let v = c.args.self.now in
    let links = ap (λ (k : Declaration). length k.links) c.network-network.ensures.network in
    let nodes = ap (λ (k : Declaration). length k.nodes) c.network-network.ensures.network in
    let channel_end = c.channels-number-end.ensures.count in
    let channel_low = c.loop-number.auto.number-end in
    let channel_high = c.loop-number-test.false in
    let node_end = c.nodes-n-end.ensures.count in
    let node_low = c.loop-n.auto.n-end in
    let node_high = c.loop-n-test.false in
    let channels : c.loop-number.number ≡ 2 * length v.declared.links = omega arith in
    let all : c.loop-n.n ≡ length v.declared.nodes = omega arith in
    all_are g.R.Routing.answer g.A.Arbiter.ports v c.network-network.ensures.sound c.loop-number.in_channels c.loop-n.at_nodes (subst (λ k. IsInChannels v k c.loop-number.in_channels) channels c.loop-number.invariant) (subst (λ k. IsAtNodes v k c.loop-n.at_nodes) all c.loop-n.invariant)
