use Rattle.std.proofs.Common.{Some, ap, arith, length, subst, ◌+◌, ◌<◌, ◌∙◌, ◌≡◌}
use Rattle.std.specs.Prelude.{slice_get}
use Rattle.sw_machine.specs.Model.{network_of}
use Rattle.sw_net.proofs.Delivered.{channel_count, channel_fits, channel_is, node_buffered, switch_buffered, wires_long}
use Rattle.sw_net.proofs.net.Net.in_channel.Goals as goal
use Rattle.sw_net.specs.Net.{NetView}
use Rattle.sw_link.specs.Between.{wire_at}
use Rattle.sw_config.proofs.Steps.{length-link_ends}
use Rattle.sw_config.specs.Entries.{Declaration, wiring_of}
use Rattle.sw_topo.specs.Wiring.{Wiring, partner}
use Rattle.sw_topo.specs.declared.place.PlaceEnd.TheVariants.{Node, Switch}

pub len-on_wire-requires : goal.len-on_wire-requires
len-on_wire-requires g c =
    let long = wires_long g.R.Routing.answer g.A.Arbiter.ports c.args.self.now c.network-network.ensures.sound in
    let all = channel_count c.args.self.now.declared in
    let r = c.requires in
    let same = ap (λ (k : NetView g.row.R.Denot g.row.A.Denot). length k.between.wires) c.self.view_is in
    omega arith

pub end_of-requires : goal.end_of-requires
end_of-requires g c =
    let w = ap (λ (k : Wiring). length k.ends) c.topology.ensures.wiring in
    let size = length-link_ends c.network-network.result.now.links in
    let same = ap (λ (k : Declaration). length k.links) c.network-network.ensures.network in
    let r = c.requires in
    omega arith

pub overflow_add-result : goal.overflow_add-result
overflow_add-result g c =
    let v = c.args.self.now in
    let wires = c.topology.ensures.wiring ∙ ap wiring_of c.network-network.ensures.network in
    let ends = subst (λ (w : Wiring). slice_get w.ends (partner c.args.channel) ≡ Some (Node c.in-Node.n)) wires (c.in-Node.ensures.place) in
    let all = channel_count v.declared in
    let r = c.requires in
    let lt : c.args.channel < (network_of v.declared).channels = omega arith in
    let buffered = node_buffered g.R.Routing.answer g.A.Arbiter.ports v c.network-network.ensures.sound c.in-Node.n c.node.result.now c.args.channel c.buffered.result c.node.ensures lt ends c.buffered.ensures in
    let on_wire = subst (λ (k : NetView g.row.R.Denot g.row.A.Denot). c.len-on_wire.result ≡ length (wire_at k.between c.args.channel)) c.self.view_is c.len-on_wire.ensures.value in
    let is = channel_is g.R.Routing.answer g.A.Arbiter.ports v c.network-network.ensures.sound c.args.channel c.buffered.result c.len-on_wire.result lt buffered on_wire in
    let fits = channel_fits g.R.Routing.answer g.A.Arbiter.ports v c.network-network.ensures.sound c.args.channel (c.buffered.result + c.len-on_wire.result) lt is in
    omega arith

pub returns-in-Node : goal.returns-in-Node
returns-in-Node g c =
    let v = c.args.self.now in
    let wires = c.topology.ensures.wiring ∙ ap wiring_of c.network-network.ensures.network in
    let ends = subst (λ (w : Wiring). slice_get w.ends (partner c.args.channel) ≡ Some (Node c.in-Node.n)) wires (c.in-Node.ensures.place) in
    let all = channel_count v.declared in
    let r = c.requires in
    let lt : c.args.channel < (network_of v.declared).channels = omega arith in
    let buffered = node_buffered g.R.Routing.answer g.A.Arbiter.ports v c.network-network.ensures.sound c.in-Node.n c.node.result.now c.args.channel c.buffered.result c.node.ensures lt ends c.buffered.ensures in
    let on_wire = subst (λ (k : NetView g.row.R.Denot g.row.A.Denot). c.len-on_wire.result ≡ length (wire_at k.between c.args.channel)) c.self.view_is c.len-on_wire.ensures.value in
    channel_is g.R.Routing.answer g.A.Arbiter.ports v c.network-network.ensures.sound c.args.channel c.buffered.result c.len-on_wire.result lt buffered on_wire

pub overflow_add-result-in-Switch : goal.overflow_add-result-in-Switch
overflow_add-result-in-Switch g c =
    let v = c.args.self.now in
    let wires = c.topology.ensures.wiring ∙ ap wiring_of c.network-network.ensures.network in
    let ends = subst (λ (w : Wiring). slice_get w.ends (partner c.args.channel) ≡ Some (Switch c.in-Switch.w c.in-Switch.port)) wires (c.in-Switch.ensures.place) in
    let all = channel_count v.declared in
    let r = c.requires in
    let lt : c.args.channel < (network_of v.declared).channels = omega arith in
    let buffered = switch_buffered g.R.Routing.answer g.A.Arbiter.ports v c.network-network.ensures.sound c.in-Switch.w c.switch.result.now c.args.channel c.in-Switch.port c.buffered-in-Switch.result c.switch.ensures ends c.buffered-in-Switch.ensures in
    let on_wire = subst (λ (k : NetView g.row.R.Denot g.row.A.Denot). c.len-on_wire.result ≡ length (wire_at k.between c.args.channel)) c.self.view_is c.len-on_wire.ensures.value in
    let is = channel_is g.R.Routing.answer g.A.Arbiter.ports v c.network-network.ensures.sound c.args.channel c.buffered-in-Switch.result c.len-on_wire.result lt buffered on_wire in
    let fits = channel_fits g.R.Routing.answer g.A.Arbiter.ports v c.network-network.ensures.sound c.args.channel (c.buffered-in-Switch.result + c.len-on_wire.result) lt is in
    omega arith

pub returns-in-Switch : goal.returns-in-Switch
returns-in-Switch g c =
    let v = c.args.self.now in
    let wires = c.topology.ensures.wiring ∙ ap wiring_of c.network-network.ensures.network in
    let ends = subst (λ (w : Wiring). slice_get w.ends (partner c.args.channel) ≡ Some (Switch c.in-Switch.w c.in-Switch.port)) wires (c.in-Switch.ensures.place) in
    let all = channel_count v.declared in
    let r = c.requires in
    let lt : c.args.channel < (network_of v.declared).channels = omega arith in
    let buffered = switch_buffered g.R.Routing.answer g.A.Arbiter.ports v c.network-network.ensures.sound c.in-Switch.w c.switch.result.now c.args.channel c.in-Switch.port c.buffered-in-Switch.result c.switch.ensures ends c.buffered-in-Switch.ensures in
    let on_wire = subst (λ (k : NetView g.row.R.Denot g.row.A.Denot). c.len-on_wire.result ≡ length (wire_at k.between c.args.channel)) c.self.view_is c.len-on_wire.ensures.value in
    channel_is g.R.Routing.answer g.A.Arbiter.ports v c.network-network.ensures.sound c.args.channel c.buffered-in-Switch.result c.len-on_wire.result lt buffered on_wire
