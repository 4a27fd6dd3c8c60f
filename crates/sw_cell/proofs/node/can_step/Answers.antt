use Rattle.std.proofs.Common.{◌<◌, ap, arith, length, subst, sym, ◌∙◌}
use Rattle.std.proofs.lemmas.Bool.Decides.{not_from_Decides}
use Rattle.std.specs.Prelude.{nat_lt}
use Rattle.sw_cell.proofs.Enabling as enabling
use Rattle.sw_cell.proofs.Network.{facts_of, has_wire, into_found, out_found}
use Rattle.sw_cell.proofs.Telling.{any_tells}
use Rattle.sw_cell.proofs.node.can_step.Goals as goal
use Rattle.sw_machine.specs.Model.{network_of}
use Rattle.sw_link.specs.Between.{fcts_at, wire_at}

pub fcts-requires : goal.fcts-requires
fcts-requires c = has_wire c.requires.node c.topology.ensures.wiring c.requires.reached c.out.ensures.within

pub len-requires : goal.len-requires
len-requires c = has_wire c.requires.node c.topology-2.ensures.wiring c.requires.reached c.into.ensures.within

pub returns-then-enabled : goal.returns-then-enabled
returns-then-enabled c =
    let f = facts_of c.requires.node in
    enabling.cell_can (network_of c.args.network.now) f.ok c.args.n f.inside c.args.node.now c.args.wires.now f.capacity f.answers (c.enabled.ensures.0 c.if-enabled.true)

pub returns-then-fcts-gt0 : goal.returns-then-fcts-gt0
returns-then-fcts-gt0 c =
    let f = facts_of c.requires.node in
    let o = out_found c.requires.node c.topology.ensures.wiring c.out.ensures.channel in
    let some = subst (λ k. 0 < fcts_at c.args.wires.now k) (sym o) (let e = c.fcts.ensures in let z = c.if-fcts-gt0.true in omega arith) in
    enabling.fct_can (network_of c.args.network.now) f.ok c.args.n f.inside c.args.node.now c.args.wires.now f.capacity f.answers some

pub returns : goal.returns
returns c =
    let net = network_of c.args.network.now in
    let f = facts_of c.requires.node in
    let o = out_found c.requires.node c.topology.ensures.wiring c.out.ensures.channel in
    let i = into_found c.requires.node c.topology-2.ensures.wiring c.into.ensures.channel in
    let none : 0 < fcts_at c.args.wires.now (net.out c.args.n) → ⊥ = λ some. let e = c.fcts.ensures in let z = c.if-fcts-gt0.false in let more = subst (λ k. 0 < fcts_at c.args.wires.now k) o some in absurd (omega arith) in
    let comes = any_tells c.len.result (length (wire_at c.args.wires.now (net.into c.args.n))) (c.len.ensures.value ∙ ap (λ k. length (wire_at c.args.wires.now k)) (sym i)) in
    enabling.character_tells net f.ok c.args.n f.inside c.args.node.now c.args.wires.now f.capacity f.answers (nat_lt 0 c.len.result) (not_from_Decides c.enabled.result c.enabled.ensures c.if-enabled.false) none comes
