use Rattle.std.proofs.Common.{ap, length, subst, sym, ◌∙◌}
use Rattle.std.specs.Prelude.{nat_lt}
use Rattle.sw_cell.proofs.Network.{facts_of, has_wire, into_found, out_found}
use Rattle.sw_cell.proofs.Telling as telling
use Rattle.sw_cell.proofs.Telling.{any_tells}
use Rattle.sw_cell.proofs.node.is_possible.Goals as goal
use Rattle.sw_cell.specs.Possible.{NodeTells, step_at_node}
use Rattle.sw_cell.specs.declared.node.NodeStep.{NodeStep}
use Rattle.sw_machine.specs.Model.{network_of}
use Rattle.sw_link.specs.Between.{fcts_at, wire_at}

pub fcts-requires : goal.fcts-requires
fcts-requires c = has_wire c.requires.node c.topology.ensures.wiring c.requires.reached c.out.ensures.within

pub len-requires : goal.len-requires
len-requires c = has_wire c.requires.node c.topology-in-Arrive.ensures.wiring c.requires.reached c.into.ensures.within

pub returns-in-Fct : goal.returns-in-Fct
returns-in-Fct c =
    let net = network_of c.args.network.now in
    let f = facts_of c.requires.node in
    subst (λ (k : NodeStep). NodeTells net c.args.n c.args.node.now c.args.wires.now (step_at_node net c.args.n k) c.can_issue.result) (sym c.in-Fct.is)
    (telling.fct net f.ok c.args.n f.inside c.args.node.now c.args.wires.now c.can_issue.result f.capacity c.can_issue.ensures)

pub returns-in-FctIn : goal.returns-in-FctIn
returns-in-FctIn c =
    let net = network_of c.args.network.now in
    let f = facts_of c.requires.node in
    let o = out_found c.requires.node c.topology.ensures.wiring c.out.ensures.channel in
    let comes = any_tells c.fcts.result (fcts_at c.args.wires.now (net.out c.args.n)) (c.fcts.ensures ∙ ap (fcts_at c.args.wires.now) (sym o)) in
    subst (λ (k : NodeStep). NodeTells net c.args.n c.args.node.now c.args.wires.now (step_at_node net c.args.n k) (nat_lt 0 c.fcts.result)) (sym c.in-FctIn.is)
    (telling.fct_in net f.ok c.args.n f.inside c.args.node.now c.args.wires.now (nat_lt 0 c.fcts.result) comes)

pub returns-in-Arrive : goal.returns-in-Arrive
returns-in-Arrive c =
    let net = network_of c.args.network.now in
    let f = facts_of c.requires.node in
    let o = into_found c.requires.node c.topology-in-Arrive.ensures.wiring c.into.ensures.channel in
    let comes = any_tells c.len.result (length (wire_at c.args.wires.now (net.into c.args.n))) (c.len.ensures.value ∙ ap (λ k. length (wire_at c.args.wires.now k)) (sym o)) in
    subst (λ (k : NodeStep). NodeTells net c.args.n c.args.node.now c.args.wires.now (step_at_node net c.args.n k) (nat_lt 0 c.len.result)) (sym c.in-Arrive.is)
    (telling.arrive net f.ok c.args.n f.inside c.args.node.now c.args.wires.now (nat_lt 0 c.len.result) comes)

pub returns-in-Emit : goal.returns-in-Emit
returns-in-Emit c =
    let net = network_of c.args.network.now in
    let f = facts_of c.requires.node in
    subst (λ (k : NodeStep). NodeTells net c.args.n c.args.node.now c.args.wires.now (step_at_node net c.args.n k) c.can_emit.result) (sym c.in-Emit.is)
    (telling.emit net f.ok c.args.n f.inside c.args.node.now c.args.wires.now c.can_emit.result c.can_emit.ensures)

pub returns-in-Accept : goal.returns-in-Accept
returns-in-Accept c =
    let net = network_of c.args.network.now in
    let f = facts_of c.requires.node in
    subst (λ (k : NodeStep). NodeTells net c.args.n c.args.node.now c.args.wires.now (step_at_node net c.args.n k) c.can_accept.result) (sym c.in-Accept.is)
    (telling.accept net f.ok c.args.n f.inside c.args.node.now c.args.wires.now c.can_accept.result f.answers c.can_accept.ensures)

pub returns-in-Reply : goal.returns-in-Reply
returns-in-Reply c =
    let net = network_of c.args.network.now in
    let f = facts_of c.requires.node in
    subst (λ (k : NodeStep). NodeTells net c.args.n c.args.node.now c.args.wires.now (step_at_node net c.args.n k) c.can_reply.result) (sym c.in-Reply.is)
    (telling.reply net f.ok c.args.n f.inside c.args.node.now c.args.wires.now c.can_reply.result c.can_reply.ensures)
