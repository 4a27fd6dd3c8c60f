use Rattle.std.proofs.Common.{List, [], ap, ◌∙◌}
use Rattle.sw_config.specs.Entries.{FlowEntry, Declaration}
use Rattle.sw_config.proofs.Wired.{no_fault, network_made, fault_told}
use Rattle.sw_config.proofs.builder.NetworkBuilder.wire.Goals as goal

pub invariant_of-result : goal.invariant_of-result
invariant_of-result c =
    let inside = c.self.inside in
    let d : Declaration = record { nodes = inside.nodes.items; switches = inside.switches.items; links = inside.links.items; flows = [] } in
    network_made inside.wiring inside.names d c.self.invariant c.in-Ok.topology c.new.result c.new-in-Ok.result c.in-Ok.limits c.len.result c.in-Ok.ensures.topology c.new.ensures c.new-in-Ok.ensures
    c.in-Ok.ensures.limits (c.len.ensures ∙ inside.nodes.ok.0)

pub returns-in-Ok : goal.returns-in-Ok
returns-in-Ok c =
    let inside = c.self.inside in
    let d : Declaration = record { nodes = inside.nodes.items; switches = inside.switches.items; links = inside.links.items; flows = [] } in (
      rw (← c.self.view_is) (no_fault inside.wiring inside.names d c.self.invariant c.in-Ok.topology c.in-Ok.ensures.topology),
      ap (λ (flows : List FlowEntry). record d { flows = flows }) c.new.ensures ∙ c.self.view_is,
    )

pub returns-in-Err : goal.returns-in-Err
returns-in-Err c =
    let inside = c.self.inside in
    let d : Declaration = record { nodes = inside.nodes.items; switches = inside.switches.items; links = inside.links.items; flows = [] } in
    rw (← c.self.view_is) (fault_told inside.wiring inside.names d c.self.invariant c.in-Err.refused c.in-Err.ensures.refused)
