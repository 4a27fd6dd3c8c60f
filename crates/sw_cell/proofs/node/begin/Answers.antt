use Rattle.std.proofs.Common.{ap, arith, length-append, rules, subst, sym, true, ◌∙◌}
use Rattle.std.proofs.lemmas.Bool.Decides.{not_from_Decides}
use Rattle.std.proofs.lemmas.Option.{slice_get_within}
use Rattle.sw_cell.proofs.Network.{address_is, facts_of}
use Rattle.sw_cell.proofs.Nodes as nodes
use Rattle.sw_cell.proofs.node.begin.Goals as goal
use Rattle.sw_cell.specs.Makes.{NodeDoes}
use Rattle.sw_config.specs.Entries.{reply_flows}
use Rattle.sw_machine.proofs.Declares.{declared_are_declared}
use Rattle.sw_machine.specs.Steps.{Begin}
use Rattle.sw_machine.specs.Model.{network_of}
use Rattle.sw_node.specs.Changes.{begun}

pub flow-requires : goal.flow-requires
flow-requires c =
    let packet = c.requires.declared.packet in
    let within = slice_get_within c.args.network.now.flows c.args.flow packet.entry packet.declared in
    omega (arith, length-append c.args.network.now.flows (reply_flows c.args.network.now.flows))

pub returns-then-not-can_begin-clause-made : goal.returns-then-not-can_begin-clause-made
returns-then-not-can_begin-clause-made c =
    let f = facts_of c.requires.node in
    record {
      kept = c.requires.node;
      makes = λ b. nodes.begin_not (network_of c.args.network.now) c.args.n f.inside c.args.node.now b c.args.flow c.args.cargo.now c.args.end c.requires.declared.from (not_from_Decides c.can_begin.result c.can_begin.ensures c.if-not-can_begin.true);
    }

pub returns-clause-made : goal.returns-clause-made
returns-clause-made c =
    let f = facts_of c.requires.node in
    let declared = (declared_are_declared c.args.network.now c.args.flow c.args.cargo.now).0 c.requires.declared.packet in
    let e = c.in_ok-begin.ensures.ok ∙ ap (λ a. begun c.args.node.now a c.args.cargo.now c.args.end) (c.address.ensures ∙ sym (address_is c.args.network.now c.args.flow c.flow.result.now c.flow.ensures.flow)) in
    subst (λ k. NodeDoes c.args.network.now c.args.n c.args.node.now (Begin c.args.flow c.args.cargo.now c.args.end) true k) (sym e) (record {
      kept = record { valid = c.requires.node.valid; in_net = c.requires.node.in_net; target = c.requires.node.target; capacity = c.requires.node.capacity };
      makes = λ b. nodes.begin_made (network_of c.args.network.now) c.args.n f.inside c.args.node.now b c.args.flow c.args.cargo.now c.args.end declared c.requires.declared.from (search rules);
    })
