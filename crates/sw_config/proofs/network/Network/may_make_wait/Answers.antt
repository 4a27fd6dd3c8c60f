use Rattle.std.proofs.Common.{ap, not, ◌&&◌, ◌∙◌, sym}
use Rattle.sw_config.specs.Entries.{Declaration}
use Rattle.sw_config.specs.Limits.{always_takes}
use Rattle.sw_config.proofs.Limits.{answering_told}
use Rattle.sw_config.proofs.network.Network.may_make_wait.Goals as goal

pub returns-else-is_answering : goal.returns-else-is_answering
returns-else-is_answering c =
    let inside = c.self.inside in
    let d : Declaration = record { nodes = inside.nodes.items; switches = inside.switches.items; links = inside.links.items; flows = inside.flows } in
    let told = answering_told d inside.limits c.self.invariant.limited c.self.invariant.valid c.args.node in
    let fails = c.if-is_answering.false in
    rw (← c.self.view_is) (fails ∙ sym (ap (λ b. b && not (always_takes d c.args.node)) (sym told ∙ sym c.is_answering.ensures ∙ fails)))
