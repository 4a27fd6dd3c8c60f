use Rattle.std.proofs.Common.{List, [], ◌∷◌, ◌++◌, refl, ap, ◌∙◌}
use Rattle.sw_config.specs.Entries.{LinkEntry, Declaration}
use Rattle.sw_config.proofs.Steps.{link_added, link_refused, end_inside, on_err}
use Rattle.sw_config.proofs.builder.NetworkBuilder.add_link.Goals as goal

pub invariant_of-self-2 : goal.invariant_of-self-2
invariant_of-self-2 c =
    let l : LinkEntry = record { a = c.args.a; b = c.args.b; buffer_a = c.args.buffer_a; buffer_b = c.args.buffer_b } in
    let d : Declaration = record { nodes = c.self.inside.nodes.items; switches = c.self.inside.switches.items; links = c.self.inside.links.items; flows = [] } in
    link_added c.self.inside.wiring c.self.inside.names d c.self.invariant c.link.new.self c.reserve.new.self.items c.push_reserved.new.self.items l
    c.in_ok-link.ensures.ok c.in_ok-reserve.ensures.items c.push_reserved.ensures.items
    (rw (← c.self.view_is) at c.requires.a_inside) (rw (← c.self.view_is) at c.requires.b_inside)
    (record { low_a = c.requires.low_a; high_a = c.requires.high_a; low_b = c.requires.low_b; high_b = c.requires.high_b })

pub link-requires-clause-a_inside : goal.link-requires-clause-a_inside
link-requires-clause-a_inside c =
    let inside = c.self.inside in
    let d : Declaration = record { nodes = inside.nodes.items; switches = inside.switches.items; links = inside.links.items; flows = [] } in
    end_inside inside.wiring inside.names d c.self.invariant c.args.a (rw (← c.self.view_is) at c.requires.a_inside)

pub link-requires-clause-b_inside : goal.link-requires-clause-b_inside
link-requires-clause-b_inside c =
    let inside = c.self.inside in
    let d : Declaration = record { nodes = inside.nodes.items; switches = inside.switches.items; links = inside.links.items; flows = [] } in
    end_inside inside.wiring inside.names d c.self.invariant c.args.b (rw (← c.self.view_is) at c.requires.b_inside)

pub invariant_of-self : goal.invariant_of-self
invariant_of-self c =
    let inside = c.self.inside in
    let d : Declaration = record { nodes = inside.nodes.items; switches = inside.switches.items; links = inside.links.items; flows = [] } in
    link_refused inside.wiring inside.names d c.self.invariant inside.wiring c.reserve.new.self.items refl c.reserve.ensures.items

pub invariant_of-self-in_err-link : goal.invariant_of-self-in_err-link
invariant_of-self-in_err-link c =
    let inside = c.self.inside in
    let d : Declaration = record { nodes = inside.nodes.items; switches = inside.switches.items; links = inside.links.items; flows = [] } in
    link_refused inside.wiring inside.names d c.self.invariant c.link.new.self c.reserve.new.self.items c.in_err-link.ensures.err c.in_ok-reserve.ensures.items

pub returns-in_err-link-clause-err : goal.returns-in_err-link-clause-err
returns-in_err-link-clause-err c =
    let inside = c.self.inside in
    let d : Declaration = record { nodes = inside.nodes.items; switches = inside.switches.items; links = inside.links.items; flows = [] } in
    on_err c.from_residual-in_err-link.result _ (ap (λ (links : List LinkEntry). record d { links = links }) c.in_ok-reserve.ensures.items ∙ c.self.view_is)

pub returns-clause-ok : goal.returns-clause-ok
returns-clause-ok c =
    let l : LinkEntry = record { a = c.args.a; b = c.args.b; buffer_a = c.args.buffer_a; buffer_b = c.args.buffer_b } in
    let inside = c.self.inside in
    let d : Declaration = record { nodes = inside.nodes.items; switches = inside.switches.items; links = inside.links.items; flows = [] } in
    rw (← c.self.view_is)
    (ap (λ (links : List LinkEntry). record d { links = links }) (c.push_reserved.ensures.items ∙ ap (λ (links : List LinkEntry). links ++ l ∷ []) c.in_ok-reserve.ensures.items))
