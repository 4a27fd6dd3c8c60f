use Rattle.std.proofs.Common.{true, ◌<◌, ◌++◌, ◌∷◌, [], ap, rules, length, subst, sym, ◌∙◌}
use Rattle.sw_machine.specs.Steps.{Emit}
use Rattle.sw_cell.proofs.Nodes as nodes
use Rattle.sw_cell.proofs.Network.{facts_of, has_wire, out_found}
use Rattle.sw_machine.specs.Model.{network_of}
use Rattle.sw_link.specs.Between.{wire_at, with_wire}
use Rattle.sw_cell.proofs.node.emit.Goals as goal

pub put-requires-clause-within : goal.put-requires-clause-within
put-requires-clause-within c = has_wire c.requires.node c.topology.ensures.wiring c.requires.reached c.out.ensures.within

pub put-requires-clause-room : goal.put-requires-clause-room
put-requires-clause-room c =
    let f = facts_of c.requires.node in
    let o = out_found c.requires.node c.topology.ensures.wiring c.out.ensures.channel in
    let room = nodes.emit_room (network_of c.args.network.now) f.ok c.args.n f.inside c.args.node.now c.args.wires.now c.requires.reached (search rules) in
    subst (λ k. length (wire_at c.args.wires.now k) < 56) o room

pub returns-clause-made : goal.returns-clause-made
returns-clause-made c =
    let f = facts_of c.requires.node in
    let x = c.emit-character.result in
    let o = out_found c.requires.node c.topology.ensures.wiring c.out.ensures.channel in
    nodes.made_as (network_of c.args.network.now) c.args.n c.args.node.now c.args.wires.now (Emit c.args.n) true _ c.emit-character.new.self _ c.put.new.self
    c.emit-character.ensures.after
    (c.put.ensures ∙ ap (λ k. with_wire c.args.wires.now k (wire_at c.args.wires.now k ++ x ∷ [])) (sym o))
    (nodes.emit_made (network_of c.args.network.now) f.ok c.args.n f.inside c.args.node.now c.args.wires.now x (search rules) c.emit-character.ensures.character)
