use Rattle.std.proofs.Common.{true, ◌≡◌, ap, sym, ◌∙◌, Some}
use Rattle.sw_machine.specs.Steps.{Arrive}
use Rattle.sw_cell.proofs.Nodes as nodes
use Rattle.sw_cell.proofs.Network.{facts_of, has_wire, into_found}
use Rattle.sw_machine.specs.Model.{network_of}
use Rattle.std.specs.Prelude.{slice_get, drop}
use Rattle.sw_link.specs.Between.{wire_at, with_wire}
use Rattle.sw_cell.proofs.node.arrive.Goals as goal

pub first-requires : goal.first-requires
first-requires c = has_wire c.requires.node c.topology.ensures.wiring c.requires.reached c.into-into.ensures.within

pub returns-in_default-clause-made : goal.returns-in_default-clause-made
returns-in_default-clause-made c =
    let f = facts_of c.requires.node in
    let o = into_found c.requires.node c.topology.ensures.wiring c.into-into.ensures.channel in
    let none = ap (λ k. slice_get (wire_at c.args.wires.now k) 0) o ∙ sym c.first.ensures ∙ c.in_default.is in
    nodes.arrive_not (network_of c.args.network.now) f.ok c.args.n f.inside c.args.node.now c.args.wires.now none

pub take-requires : goal.take-requires
take-requires c = has_wire c.requires.node c.topology.ensures.wiring c.requires.reached c.into-into.ensures.within

pub arrive-requires : goal.arrive-requires
arrive-requires c =
    let f = facts_of c.requires.node in
    let o = into_found c.requires.node c.topology.ensures.wiring c.into-into.ensures.channel in
    let front : slice_get (wire_at c.args.wires.now ((network_of c.args.network.now).into c.args.n)) 0 ≡ Some c.in-Some.character = ap (λ k. slice_get (wire_at c.args.wires.now k) 0) o ∙ sym c.first.ensures ∙ c.in-Some.is in
    nodes.arrive_asked (network_of c.args.network.now) f.ok c.args.n f.inside c.args.node.now c.args.wires.now c.requires.reached c.in-Some.character front

pub returns-clause-made : goal.returns-clause-made
returns-clause-made c =
    let net = network_of c.args.network.now in
    let f = facts_of c.requires.node in
    let o = into_found c.requires.node c.topology.ensures.wiring c.into-into.ensures.channel in
    let front : slice_get (wire_at c.args.wires.now (net.into c.args.n)) 0 ≡ Some c.in-Some.character = ap (λ k. slice_get (wire_at c.args.wires.now k) 0) o ∙ sym c.first.ensures ∙ c.in-Some.is in
    nodes.made_as net c.args.n c.args.node.now c.args.wires.now (Arrive (net.into c.args.n)) true _ c.arrive.new.self _ c.take.new.self
    c.arrive.ensures
    (c.take.ensures.after ∙ ap (λ k. with_wire c.args.wires.now k (drop 1 (wire_at c.args.wires.now k))) (sym o))
    (nodes.arrive_made net f.ok c.args.n f.inside c.args.node.now c.args.wires.now c.in-Some.character front)
