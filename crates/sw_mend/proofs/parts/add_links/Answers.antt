use Rattle.std.proofs.Common.{◌+◌, ◌<◌, ◌∙◌, length, take, ap, arith}
use Rattle.sw_topo.specs.Wiring.{Wiring}
use Rattle.sw_config.specs.Entries.{Declaration}
use Rattle.sw_config.proofs.Steps.{length-link_ends, stays_in}
use Rattle.sw_mend.proofs.Linked.{link_built}
use Rattle.sw_mend.proofs.parts.add_links.Goals as goal

pub start_of-a-requires : goal.start_of-a-requires
start_of-a-requires c =
    omega (
      arith,
      c.new-there.ensures,
      c.loop-link-test.true,
      c.links-link-end.ensures.count,
      length-link_ends c.args.network.now.links,
      ap (λ (w : Wiring). length w.ends) c.topology-topology.ensures.wiring,
    )

pub start_of-b-requires : goal.start_of-b-requires
start_of-b-requires c =
    omega (
      arith,
      c.new-back.ensures,
      c.loop-link-test.true,
      c.links-link-end.ensures.count,
      length-link_ends c.args.network.now.links,
      ap (λ (w : Wiring). length w.ends) c.topology-topology.ensures.wiring,
    )

pub add_link-requires-clause-a_inside : goal.add_link-requires-clause-a_inside
add_link-requires-clause-a_inside c =
    let nodes = ap (λ (d : Declaration). length d.nodes) c.loop-link.invariant in
    let switches = ap (λ (d : Declaration). length d.switches) c.loop-link.invariant in
    stays_in (length c.args.network.now.nodes) (length c.args.network.now.switches) _ _ (omega (arith, c.requires.nodes, nodes)) (omega (arith, c.requires.switches, switches)) _
    (rw c.topology-topology.ensures.wiring at c.start_of-a.ensures.inside)

pub add_link-requires-clause-b_inside : goal.add_link-requires-clause-b_inside
add_link-requires-clause-b_inside c =
    let nodes = ap (λ (d : Declaration). length d.nodes) c.loop-link.invariant in
    let switches = ap (λ (d : Declaration). length d.switches) c.loop-link.invariant in
    stays_in (length c.args.network.now.nodes) (length c.args.network.now.switches) _ _ (omega (arith, c.requires.nodes, nodes)) (omega (arith, c.requires.switches, switches)) _
    (rw c.topology-topology.ensures.wiring at c.start_of-b.ensures.inside)

pub loop-link-preserved : goal.loop-link-preserved
loop-link-preserved c =
    let links = c.args.network.now.links in
    let lt : c.loop-link.link < length links = omega (arith, c.loop-link-test.true, c.links-link-end.ensures.count) in
    let at_a = rw c.topology-topology.ensures.wiring at c.start_of-a.ensures.place in
    let at_b = rw c.topology-topology.ensures.wiring at c.start_of-b.ensures.place in
    link_built links c.loop-link.link c.new-there.result c.new-back.result _ _ _ _ _ _ lt c.new-there.ensures c.new-back.ensures at_a at_b
    c.capacity.ensures.capacity c.capacity-in-loop-link.ensures.capacity (ap (λ (d : Declaration). d.links) c.loop-link.invariant) c.in_ok-add_link.ensures.ok
    ∙ ap (λ (d : Declaration). record d { links = take (c.loop-link.link + 1) links }) c.loop-link.invariant
