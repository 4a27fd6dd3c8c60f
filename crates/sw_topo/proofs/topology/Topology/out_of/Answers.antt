use Rattle.std.proofs.Common.{◌∙◌}
use Rattle.sw_topo.proofs.TableReads.{port_at, port_below, slot_within}
use Rattle.sw_topo.proofs.topology.Topology.out_of.Goals as goal

pub returns : goal.returns
returns c =
    let inside = c.self.inside in
    rw (← c.self.view_is)
    (let is = rw c.number.ensures.value at (port_at inside.switches inside.by_port.items inside.ends.items c.self.invariant.port_table c.args.switch c.number.result c.index.result.now (rw (← c.self.view_is) at c.requires) c.number.ensures.within c.index.ensures) in
    record { channel = is; within = port_below inside.ends.items c.args.switch c.args.port c.index.result.now is })

pub index-requires : goal.index-requires
index-requires c = slot_within c.self.inside.switches _ c.args.switch c.number.result (c.self.inside.by_port.ok.0 ∙ c.self.invariant.port_table.size) (rw (← c.self.view_is) at c.requires) c.number.ensures.within
