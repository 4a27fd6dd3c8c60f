use Rattle.std.proofs.Common.{true, ◌≤◌, ◌+◌, ap, rules, subst, sym, ◌∙◌}
use Rattle.sw_machine.specs.Steps.{Fct}
use Rattle.sw_cell.proofs.Nodes as nodes
use Rattle.sw_cell.proofs.Network.{facts_of, has_wire, into_found}
use Rattle.sw_machine.specs.Model.{network_of}
use Rattle.sw_link.specs.Between.{fcts_at, with_fcts}
use Rattle.sw_cell.proofs.node.fct.Goals as goal

pub send_fct-requires-clause-within : goal.send_fct-requires-clause-within
send_fct-requires-clause-within c = has_wire c.requires.node c.topology.ensures.wiring c.requires.reached c.into.ensures.within

pub send_fct-requires-clause-few : goal.send_fct-requires-clause-few
send_fct-requires-clause-few c =
    let f = facts_of c.requires.node in
    let o = into_found c.requires.node c.topology.ensures.wiring c.into.ensures.channel in
    subst (λ k. fcts_at c.args.wires.now k ≤ 6) o (nodes.fct_few (network_of c.args.network.now) f.ok c.args.n f.inside c.args.node.now c.args.wires.now c.requires.reached (search rules))

pub returns-clause-made : goal.returns-clause-made
returns-clause-made c =
    let net = network_of c.args.network.now in
    let f = facts_of c.requires.node in
    let o = into_found c.requires.node c.topology.ensures.wiring c.into.ensures.channel in
    nodes.made_as net c.args.n c.args.node.now c.args.wires.now (Fct (net.into c.args.n)) true _ c.issue.new.self _ c.send_fct.new.self
    c.issue.ensures
    (c.send_fct.ensures ∙ ap (λ k. with_fcts c.args.wires.now k (fcts_at c.args.wires.now k + 1)) (sym o))
    (nodes.fct_made net f.ok c.args.n f.inside c.args.node.now c.args.wires.now f.capacity (search rules))
