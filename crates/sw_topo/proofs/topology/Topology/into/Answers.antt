use Rattle.std.proofs.Common.{Some, option_map, ap, sym, ◌∙◌}
use Rattle.sw_topo.specs.Wiring.{partner}
use Rattle.sw_topo.proofs.TableReads.{node_at, node_below, partner_below}
use Rattle.sw_topo.proofs.topology.Topology.into.Goals as goal

pub returns : goal.returns
returns c =
    let inside = c.self.inside in
    let first = c.index-out.result.now in
    rw (← c.self.view_is)
    (let at = node_at inside.nodes inside.by_node.items inside.ends.items c.self.invariant.node_table c.args.node first (rw (← c.self.view_is) at c.requires) c.index-out.ensures in
    record {
      channel = ap (option_map partner) at ∙ ap Some (sym c.partner.ensures);
      within = rw c.partner.ensures (partner_below _ first c.self.invariant.sound.wiring.paired (node_below inside.ends.items c.args.node first at));
    })
