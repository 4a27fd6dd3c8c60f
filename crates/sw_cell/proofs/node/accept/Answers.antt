use Rattle.std.proofs.lemmas.Bool.Decides.{not_from_Decides}
use Rattle.std.proofs.Common.{ap, rules, subst, sym, ◌∙◌, true}
use Rattle.sw_cell.proofs.Nodes as nodes
use Rattle.sw_cell.proofs.Network.{answers_as, in_network}
use Rattle.sw_machine.specs.Model.{network_of}
use Rattle.sw_cell.proofs.node.accept.Goals as goal
use Rattle.sw_cell.specs.Makes.{NodeDoes}
use Rattle.sw_machine.specs.Steps.{Accept}

pub returns-then-not-can_accept-clause-made : goal.returns-then-not-can_accept-clause-made
returns-then-not-can_accept-clause-made c = λ d for.
    record {
      kept = for;
      makes = λ b. nodes.accept_not (network_of d) c.args.n (in_network d c.args.n c.args.node.now for) c.args.node.now b (answers_as d c.args.n c.args.node.now for) (not_from_Decides c.can_accept.result c.can_accept.ensures c.if-not-can_accept.true);
    }

pub returns-clause-made : goal.returns-clause-made
returns-clause-made c = λ d for.
    let e = c.in_ok-accept.ensures.ok in
    subst (λ k. NodeDoes d c.args.n c.args.node.now (Accept c.args.n) true k) (sym e) (record {
      kept = record { valid = for.valid; in_net = for.in_net; target = nodes.config_took c.args.node.now _ ∙ for.target; capacity = ap (λ r. r.capacity) (nodes.received_took c.args.node.now _) ∙ for.capacity };
      makes = λ b. nodes.accept_made (network_of d) c.args.n (in_network d c.args.n c.args.node.now for) c.args.node.now b (answers_as d c.args.n c.args.node.now for) (search rules);
    })
