use Rattle.std.proofs.Common.{length, ap, arith}
use Rattle.sw_topo.specs.Wiring.{Wiring}
use Rattle.sw_config.proofs.Steps.{length-link_ends}
use Rattle.sw_mend.proofs.OwnLinks.{own_link_at, target_link_is}
use Rattle.sw_mend.proofs.links.own_link_of.Goals as goal

pub link_beside-requires-clause-channel : goal.link_beside-requires-clause-channel
link_beside-requires-clause-channel c =
    omega (arith, c.out-channel.ensures.within, length-link_ends c.args.network.now.links, ap (λ (w : Wiring). length w.ends) c.topology-topology.ensures.wiring)

pub returns-clause-link : goal.returns-clause-link
returns-clause-link c =
    let same =
    target_link_is c.args.network.now c.topology-topology.result.now c.args.node c.out-channel.result c.end_of.result c.link_beside.result c.topology-topology.ensures.wiring
    c.out-channel.ensures.channel c.end_of.ensures.place c.link_beside.ensures.link in
    own_link_at c.args.network.now c.args.node c.is_target.result c.is_answering.result c.link_beside.result c.requires c.is_target.ensures c.if-not-is_target.false
    c.is_answering.ensures c.if-not-is_answering.false same
