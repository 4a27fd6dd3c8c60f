use Rattle.std.proofs.Common.{true, ◌<◌, ◌≤◌, ◌-◌, ap, arith, subst, sym, ◌∙◌}
use Rattle.sw_machine.specs.Steps.{FctIn}
use Rattle.sw_cell.proofs.Nodes as nodes
use Rattle.sw_cell.proofs.Network.{facts_of, has_wire, out_found}
use Rattle.sw_machine.specs.Model.{network_of}
use Rattle.sw_link.specs.Between.{fcts_at, with_fcts}
use Rattle.sw_cell.proofs.node.fct_in.Goals as goal

pub fcts-requires : goal.fcts-requires
fcts-requires c = has_wire c.requires.node c.topology.ensures.wiring c.requires.reached c.out-out.ensures.within

pub returns-then-fcts-eq0-clause-made : goal.returns-then-fcts-eq0-clause-made
returns-then-fcts-eq0-clause-made c =
    let f = facts_of c.requires.node in
    let o = out_found c.requires.node c.topology.ensures.wiring c.out-out.ensures.channel in
    let none : fcts_at c.args.wires.now ((network_of c.args.network.now).out c.args.n) ≤ 0 = subst (λ k. fcts_at c.args.wires.now k ≤ 0) (sym o) (let e = c.fcts.ensures in let z = c.if-fcts-eq0.true in omega arith) in
    nodes.fct_in_not (network_of c.args.network.now) f.ok c.args.n f.inside c.args.node.now c.args.wires.now none

pub take_fct-requires-clause-within : goal.take_fct-requires-clause-within
take_fct-requires-clause-within c = has_wire c.requires.node c.topology.ensures.wiring c.requires.reached c.out-out.ensures.within

pub fct_in-requires : goal.fct_in-requires
fct_in-requires c =
    let f = facts_of c.requires.node in
    let o = out_found c.requires.node c.topology.ensures.wiring c.out-out.ensures.channel in
    let some : 0 < fcts_at c.args.wires.now ((network_of c.args.network.now).out c.args.n) = subst (λ k. 0 < fcts_at c.args.wires.now k) (sym o) (let e = c.fcts.ensures in let z = c.if-fcts-eq0.false in omega arith) in
    nodes.fct_in_room (network_of c.args.network.now) f.ok c.args.n f.inside c.args.node.now c.args.wires.now c.requires.reached some

pub returns-clause-made : goal.returns-clause-made
returns-clause-made c =
    let net = network_of c.args.network.now in
    let f = facts_of c.requires.node in
    let o = out_found c.requires.node c.topology.ensures.wiring c.out-out.ensures.channel in
    let some : 0 < fcts_at c.args.wires.now (net.out c.args.n) = subst (λ k. 0 < fcts_at c.args.wires.now k) (sym o) (let e = c.fcts.ensures in let z = c.if-fcts-eq0.false in omega arith) in
    nodes.made_as net c.args.n c.args.node.now c.args.wires.now (FctIn (net.out c.args.n)) true _ c.fct_in.new.self _ c.take_fct.new.self
    c.fct_in.ensures
    (c.take_fct.ensures ∙ ap (λ k. with_fcts c.args.wires.now k (fcts_at c.args.wires.now k - 1)) (sym o))
    (nodes.fct_in_made net f.ok c.args.n f.inside c.args.node.now c.args.wires.now some)
