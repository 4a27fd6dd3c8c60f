use Rattle.std.proofs.Common.{◌∙◌}
use Rattle.sw_config.specs.Entries.{Declaration}
use Rattle.sw_config.proofs.Limits.{limit_told, within_told}
use Rattle.sw_config.proofs.network.Network.limit_at.Goals as goal

pub returns-clause-limit : goal.returns-clause-limit
returns-clause-limit c =
    let inside = c.self.inside in
    let d : Declaration = record { nodes = inside.nodes.items; switches = inside.switches.items; links = inside.links.items; flows = inside.flows } in
    rw (← c.self.view_is) (c.limit_at.ensures ∙ limit_told d inside.limits c.self.invariant.limited c.self.invariant.valid c.args.node)

pub returns-clause-within : goal.returns-clause-within
returns-clause-within c =
    let inside = c.self.inside in
    let d : Declaration = record { nodes = inside.nodes.items; switches = inside.switches.items; links = inside.links.items; flows = inside.flows } in
    rw (← c.self.view_is)
    (within_told d inside.limits c.self.invariant.limited c.self.invariant.valid c.args.node c.limit_at.result
    (c.limit_at.ensures ∙ limit_told d inside.limits c.self.invariant.limited c.self.invariant.valid c.args.node))
