use Rattle.std.proofs.Common.{Bool, subst}
use Rattle.sw_cell.proofs.Telling.{none_of_six}
use Rattle.sw_cell.proofs.switch.possible_step.Goals as goal
use Rattle.sw_cell.specs.Possible.{SwitchTells, step_at_port}
use Rattle.sw_cell.specs.declared.switch.PortStep.TheVariants as at_port

pub returns-then-is_possible : goal.returns-then-is_possible
returns-then-is_possible g c =
    subst (λ (v : Bool). SwitchTells c.args.network.now c.args.w c.args.cell.now c.args.wires.now (step_at_port c.args.end at_port.Fct) v) c.if-is_possible.true c.is_possible.ensures

pub returns-then-is_possible-2 : goal.returns-then-is_possible-2
returns-then-is_possible-2 g c =
    subst (λ (v : Bool). SwitchTells c.args.network.now c.args.w c.args.cell.now c.args.wires.now (step_at_port c.args.end at_port.FctIn) v) c.if-is_possible-2.true c.is_possible-2.ensures

pub returns-then-is_possible-3 : goal.returns-then-is_possible-3
returns-then-is_possible-3 g c =
    subst (λ (v : Bool). SwitchTells c.args.network.now c.args.w c.args.cell.now c.args.wires.now (step_at_port c.args.end at_port.Arrive) v) c.if-is_possible-3.true c.is_possible-3.ensures

pub returns-then-is_possible-4 : goal.returns-then-is_possible-4
returns-then-is_possible-4 g c =
    subst (λ (v : Bool). SwitchTells c.args.network.now c.args.w c.args.cell.now c.args.wires.now (step_at_port c.args.end at_port.DropFront) v) c.if-is_possible-4.true c.is_possible-4.ensures

pub returns-then-is_possible-5 : goal.returns-then-is_possible-5
returns-then-is_possible-5 g c =
    subst (λ (v : Bool). SwitchTells c.args.network.now c.args.w c.args.cell.now c.args.wires.now (step_at_port c.args.end at_port.Forward) v) c.if-is_possible-5.true c.is_possible-5.ensures

pub returns-then-is_possible-6 : goal.returns-then-is_possible-6
returns-then-is_possible-6 g c =
    subst (λ (v : Bool). SwitchTells c.args.network.now c.args.w c.args.cell.now c.args.wires.now (step_at_port c.args.end at_port.Spill) v) c.if-is_possible-6.true c.is_possible-6.ensures

pub returns : goal.returns
returns g c =
    let d = c.args.network.now in
    let w = c.args.w in
    let cell = c.args.cell.now in
    let b = c.args.wires.now in
    let e = c.args.end in
    none_of_six d w cell b e
    (subst (λ (v : Bool). SwitchTells d w cell b (step_at_port e at_port.Fct) v) c.if-is_possible.false c.is_possible.ensures)
    (subst (λ (v : Bool). SwitchTells d w cell b (step_at_port e at_port.FctIn) v) c.if-is_possible-2.false c.is_possible-2.ensures)
    (subst (λ (v : Bool). SwitchTells d w cell b (step_at_port e at_port.Arrive) v) c.if-is_possible-3.false c.is_possible-3.ensures)
    (subst (λ (v : Bool). SwitchTells d w cell b (step_at_port e at_port.DropFront) v) c.if-is_possible-4.false c.is_possible-4.ensures)
    (subst (λ (v : Bool). SwitchTells d w cell b (step_at_port e at_port.Forward) v) c.if-is_possible-5.false c.is_possible-5.ensures)
    (subst (λ (v : Bool). SwitchTells d w cell b (step_at_port e at_port.Spill) v) c.if-is_possible-6.false c.is_possible-6.ensures)
