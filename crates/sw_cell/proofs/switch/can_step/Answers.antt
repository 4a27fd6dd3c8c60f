use Rattle.std.proofs.Common.{◌<◌, ap, arith, length, subst, sym, ◌∙◌}
use Rattle.std.proofs.lemmas.Bool.Decides.{not_from_Decides}
use Rattle.std.specs.Prelude.{nat_lt}
use Rattle.sw_cell.proofs.Enabling as enabling
use Rattle.sw_cell.proofs.Switches as switches
use Rattle.sw_cell.proofs.Telling.{any_tells}
use Rattle.sw_cell.proofs.switch.can_step.Goals as goal
use Rattle.sw_topo.specs.Wiring.{partner}
use Rattle.sw_link.specs.Between.{fcts_at, wire_at}

pub fcts-requires : goal.fcts-requires
fcts-requires g c =
    let at = switches.port_ends c.requires.cell c.sends.ensures c.output-port.ensures in
    subst (λ k. k < length c.args.wires.now.wires) (sym c.sends-2.ensures) (switches.start_has_wire c.requires.cell c.requires.reached c.args.end at.starts)

pub len-requires : goal.len-requires
len-requires g c =
    let at = switches.port_ends c.requires.cell c.sends.ensures c.output-port.ensures in
    subst (λ k. k < length c.args.wires.now.wires) (sym c.receives.ensures) (switches.end_has_wire c.requires.cell c.requires.reached (partner c.args.end) at.ends)

pub returns-then-enabled : goal.returns-then-enabled
returns-then-enabled g c =
    let at = switches.port_ends c.requires.cell c.sends.ensures c.output-port.ensures in
    enabling.port_can g.R.Routing.answer g.A.Arbiter.ports c.args.network.now c.args.w c.args.cell.now c.requires.cell c.args.wires.now c.args.end c.output-port.result at (c.enabled.ensures.0 c.if-enabled.true)

pub returns-then-fcts-gt0 : goal.returns-then-fcts-gt0
returns-then-fcts-gt0 g c =
    let at = switches.port_ends c.requires.cell c.sends.ensures c.output-port.ensures in
    let some = subst (λ k. 0 < fcts_at c.args.wires.now k) c.sends-2.ensures (let e = c.fcts.ensures in let z = c.if-fcts-gt0.true in omega arith) in
    enabling.port_fct_can g.R.Routing.answer g.A.Arbiter.ports c.args.network.now c.args.w c.args.cell.now c.requires.cell c.args.wires.now c.args.end c.output-port.result at some

pub returns : goal.returns
returns g c =
    let at = switches.port_ends c.requires.cell c.sends.ensures c.output-port.ensures in
    let none : 0 < fcts_at c.args.wires.now c.args.end → ⊥ = λ some. let e = c.fcts.ensures in let z = c.if-fcts-gt0.false in let more = subst (λ k. 0 < fcts_at c.args.wires.now k) (sym c.sends-2.ensures) some in absurd (omega arith) in
    let comes = any_tells c.len.result (length (wire_at c.args.wires.now (partner c.args.end))) (c.len.ensures.value ∙ ap (λ k. length (wire_at c.args.wires.now k)) c.receives.ensures) in
    enabling.port_character_tells g.R.Routing.answer g.A.Arbiter.ports c.args.network.now c.args.w c.args.cell.now c.requires.cell c.args.wires.now c.args.end c.output-port.result at (nat_lt 0 c.len.result) (not_from_Decides c.enabled.result c.enabled.ensures c.if-enabled.false) none comes
