use Rattle.std.proofs.Common.{sym, ◌∙◌}
use Rattle.sw_config.specs.Entries.{Declaration}
use Rattle.sw_config.proofs.Limits.{takes_told}
use Rattle.sw_config.proofs.network.Network.always_takes.Goals as goal

pub returns : goal.returns
returns c =
    let inside = c.self.inside in
    let d : Declaration = record { nodes = inside.nodes.items; switches = inside.switches.items; links = inside.links.items; flows = inside.flows } in
    rw (← c.self.view_is)
    (c.has_room.ensures
    ∙ takes_told d inside.limits c.self.invariant.limited c.self.invariant.valid c.args.node c.in-Some.limit c.slots.result c.takes_others.result
    (rw (← c.self.view_is) at (sym c.in-Some.ensures.limit)) (rw (← c.self.view_is) at c.slots.ensures) c.takes_others.ensures)
