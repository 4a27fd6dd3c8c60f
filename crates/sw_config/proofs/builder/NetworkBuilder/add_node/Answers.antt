use Rattle.std.proofs.Common.{List, ℕ, [], ◌∷◌, ◌++◌, refl, ap, ◌∙◌}
use Rattle.sw_config.specs.Entries.{NodeEntry, Declaration, part_names}
use Rattle.sw_config.proofs.Steps.{node_added, node_refused, on_err}
use Rattle.sw_config.proofs.Texts.{new_key}
use Rattle.sw_config.proofs.builder.NetworkBuilder.add_node.Goals as goal

pub invariant_of-self-2 : goal.invariant_of-self-2
invariant_of-self-2 c =
    let n : NodeEntry = record { name = c.args.name.now; target = c.args.target; outstanding = c.args.outstanding } in
    let d : Declaration = record { nodes = c.self.inside.nodes.items; switches = c.self.inside.switches.items; links = c.self.inside.links.items; flows = [] } in
    node_added c.self.inside.wiring c.self.inside.names d c.self.invariant c.node.new.self c.add.new.self c.add.new.all.items n _
    c.node.ensures.added (c.in_ok-add.ensures.names c.args.name.now c.from_str-key.ensures.ok) c.in_ok-add.ensures.all c.in_ok-from_str.ensures.ok
    (rw (← c.self.view_is) at c.requires.nodes_first) (rw (← c.self.view_is) at c.requires.few) (record { target = c.requires.target; outstanding = c.requires.outstanding })
    (rw (← c.self.view_is) at c.requires.new_name)

pub add-requires : goal.add-requires
add-requires c =
    let inside = c.self.inside in
    let d : Declaration = record { nodes = inside.nodes.items; switches = inside.switches.items; links = inside.links.items; flows = [] } in
    new_key c.from_str-key.result c.args.name.now c.args.name.now inside.names (part_names d) c.from_str-key.ensures.ok refl c.self.invariant.named (rw (← c.self.view_is) at c.requires.new_name)

pub invariant_of-self : goal.invariant_of-self
invariant_of-self c =
    let inside = c.self.inside in
    let d : Declaration = record { nodes = inside.nodes.items; switches = inside.switches.items; links = inside.links.items; flows = [] } in
    node_refused inside.wiring inside.names d c.self.invariant c.add.new.self c.add.new.all.items c.in_err-add.ensures.names_kept c.in_err-add.ensures.all_kept

pub returns-in_err-add-clause-err : goal.returns-in_err-add-clause-err
returns-in_err-add-clause-err c =
    let inside = c.self.inside in
    let d : Declaration = record { nodes = inside.nodes.items; switches = inside.switches.items; links = inside.links.items; flows = [] } in
    on_err c.from_residual-in_err-add.result _ (ap (λ (nodes : List NodeEntry). record d { nodes = nodes }) c.in_err-add.ensures.all_kept ∙ c.self.view_is)

pub returns-clause-ok : goal.returns-clause-ok
returns-clause-ok c =
    let inside = c.self.inside in
    let d : Declaration = record { nodes = inside.nodes.items; switches = inside.switches.items; links = inside.links.items; flows = [] } in
    rw (← c.self.view_is)
    (ap (λ (nodes : List NodeEntry). record d { nodes = nodes })
    (◌∙◌ {A = List NodeEntry} c.in_ok-add.ensures.all (ap (λ (name : List ℕ). inside.nodes.items ++ record { name = name; target = c.args.target; outstanding = c.args.outstanding } ∷ []) c.in_ok-from_str.ensures.ok)))
