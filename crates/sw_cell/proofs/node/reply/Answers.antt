use Rattle.std.proofs.Common.{rules, subst, sym, true}
use Rattle.sw_cell.proofs.Nodes as nodes
use Rattle.sw_cell.proofs.Network.{in_network}
use Rattle.sw_machine.specs.Model.{network_of}
use Rattle.sw_cell.specs.Makes.{NodeDoes}
use Rattle.sw_machine.specs.Steps.{Reply}
use Rattle.sw_cell.proofs.node.reply.Goals as goal

pub returns : goal.returns
returns c = λ d for.
    subst (λ k. NodeDoes d c.args.n c.args.node.now (Reply c.args.n) true k) (sym c.reply.ensures) (record {
      kept = record { valid = for.valid; in_net = for.in_net; target = for.target; capacity = for.capacity };
      makes = λ b. nodes.reply_made (network_of d) c.args.n (in_network d c.args.n c.args.node.now for) c.args.node.now b (search rules);
    })
