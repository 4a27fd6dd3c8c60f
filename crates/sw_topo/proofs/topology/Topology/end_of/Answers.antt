use Rattle.std.proofs.Common.{◌<◌, subst, sym, ◌∙◌}
use Rattle.sw_topo.specs.Wiring.{partner}
use Rattle.sw_topo.proofs.TableReads.{end_at, partner_below}
use Rattle.sw_topo.proofs.topology.Topology.end_of.Goals as goal

pub index-requires : goal.index-requires
index-requires c =
    rw (c.number.ensures ∙ c.partner.ensures)
    (subst (λ n. partner c.args.channel < n) (sym c.self.inside.ends.ok.0) (partner_below _ c.args.channel c.self.invariant.sound.wiring.paired (rw (← c.self.view_is) at c.requires)))

pub returns : goal.returns
returns c =
    let inside = c.self.inside in
    let within = partner_below _ c.args.channel c.self.invariant.sound.wiring.paired (rw (← c.self.view_is) at c.requires) in
    let at = rw (c.number.ensures ∙ c.partner.ensures) at c.index.ensures in
    let end = end_at inside.nodes inside.switches inside.ends.items c.self.invariant.sound.wiring.inside _ c.index.result.now within at in
    rw (← c.self.view_is) (record { place = end.0; inside = end.1 })
