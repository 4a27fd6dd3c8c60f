use Rattle.std.proofs.Common.{Bool, ap, ◌∙◌, ◌≡◌, refl, subst, sym, ℕ}
use Rattle.sw_cell.proofs.switch_steps.step_switch.Goals as goal
use Rattle.sw_cell.specs.SwitchParts.{SwitchMakes}
use Rattle.sw_config.specs.Entries.{Declaration}
use Rattle.sw_link.specs.Between.{Between}
use Rattle.sw_machine.specs.Network.{AtSwitch}
use Rattle.sw_machine.specs.Parts.{cell_of}
use Rattle.sw_machine.specs.Model.{network_of}
use Rattle.sw_machine.specs.StepValues.{machine_move, machine_step}
use Rattle.sw_machine.specs.declared.step.Move.{Move}
use Rattle.sw_machine.specs.declared.step.Move.TheVariants.{Accept, Arrive, Drop, Emit, Fct, FctIn, Forward, Grant, Reply, Spill}
use Rattle.sw_machine.specs.declared.step.Step.{Step}
use Rattle.sw_machine.specs.declared.step.Step.TheVariants as code
use Rattle.sw_switch.specs.Cell.{Cell}

-- the switch of a step, and what is made of it, once it is known which step it is
at_of : (d : Declaration) (w : ℕ) (step : Step) (move known : Move) → step ≡ code.Move move → move ≡ known → cell_of (network_of d) (machine_step step) ≡ AtSwitch w → cell_of (network_of d) (machine_move known) ≡ AtSwitch w
at_of d w step move known is same at = subst (λ k. cell_of (network_of d) k ≡ AtSwitch w) (ap machine_step is ∙ ap machine_move same) at

made_of : {R A : Type 0} (d : Declaration) (w : ℕ) (cell after : Cell R A) (b v : Between) (made : Bool) (step : Step) (move known : Move) → step ≡ code.Move move → move ≡ known
    → SwitchMakes d w cell b (machine_move known) made after v → SwitchMakes d w cell b (machine_step step) made after v
made_of d w cell after b v made step move known is same h = subst (λ k. SwitchMakes d w cell b k made after v) (sym (ap machine_step is ∙ ap machine_move same)) h

-- a step at a switch is one of seven
never : (d : Declaration) (w : ℕ) (step : Move) → cell_of (network_of d) (machine_move step) ≡ AtSwitch w
    → ((c : ℕ) → step ≡ Fct c → ⊥) → ((c : ℕ) → step ≡ FctIn c → ⊥) → ((c : ℕ) → step ≡ Arrive c → ⊥) → ((o c : ℕ) → step ≡ Grant o c → ⊥)
    → ((c : ℕ) → step ≡ Drop c → ⊥) → ((c : ℕ) → step ≡ Forward c → ⊥) → ((c : ℕ) → step ≡ Spill c → ⊥) → ⊥
never d w (Fct c) at fct fct_in arrive grant drop forward spill = fct c refl
never d w (FctIn c) at fct fct_in arrive grant drop forward spill = fct_in c refl
never d w (Arrive c) at fct fct_in arrive grant drop forward spill = arrive c refl
never d w (Grant o c) at fct fct_in arrive grant drop forward spill = grant o c refl
never d w (Drop c) at fct fct_in arrive grant drop forward spill = drop c refl
never d w (Forward c) at fct fct_in arrive grant drop forward spill = forward c refl
never d w (Spill c) at fct fct_in arrive grant drop forward spill = spill c refl
never d w (Emit n) at fct fct_in arrive grant drop forward spill = cc
never d w (Accept n) at fct fct_in arrive grant drop forward spill = cc
never d w (Reply n) at fct fct_in arrive grant drop forward spill = cc

pub fct-requires-clause-at : goal.fct-requires-clause-at
fct-requires-clause-at g c = at_of c.args.network.now c.args.w c.args.step.now c.in-Move.step (Fct c.in-Fct.channel) c.in-Move.is c.in-Fct.is c.requires.at

pub fct_in-requires-clause-at : goal.fct_in-requires-clause-at
fct_in-requires-clause-at g c = at_of c.args.network.now c.args.w c.args.step.now c.in-Move.step (FctIn c.in-FctIn.channel) c.in-Move.is c.in-FctIn.is c.requires.at

pub arrive-requires-clause-at : goal.arrive-requires-clause-at
arrive-requires-clause-at g c = at_of c.args.network.now c.args.w c.args.step.now c.in-Move.step (Arrive c.in-Arrive.channel) c.in-Move.is c.in-Arrive.is c.requires.at

pub grant-requires-clause-at : goal.grant-requires-clause-at
grant-requires-clause-at g c = at_of c.args.network.now c.args.w c.args.step.now c.in-Move.step (Grant c.in-Grant.output c.in-Grant.channel) c.in-Move.is c.in-Grant.is c.requires.at

pub drop_front-requires-clause-at : goal.drop_front-requires-clause-at
drop_front-requires-clause-at g c = at_of c.args.network.now c.args.w c.args.step.now c.in-Move.step (Drop c.in-Drop.channel) c.in-Move.is c.in-Drop.is c.requires.at

pub forward-requires-clause-at : goal.forward-requires-clause-at
forward-requires-clause-at g c = at_of c.args.network.now c.args.w c.args.step.now c.in-Move.step (Forward c.in-Forward.channel) c.in-Move.is c.in-Forward.is c.requires.at

pub returns-in-Fct-clause-made : goal.returns-in-Fct-clause-made
returns-in-Fct-clause-made g c = made_of c.args.network.now c.args.w c.args.cell.now c.fct.new.cell c.args.wires.now c.fct.new.wires c.fct.result c.args.step.now c.in-Move.step (Fct c.in-Fct.channel) c.in-Move.is c.in-Fct.is c.fct.ensures.made

pub returns-in-FctIn-clause-made : goal.returns-in-FctIn-clause-made
returns-in-FctIn-clause-made g c = made_of c.args.network.now c.args.w c.args.cell.now c.fct_in.new.cell c.args.wires.now c.fct_in.new.wires c.fct_in.result c.args.step.now c.in-Move.step (FctIn c.in-FctIn.channel) c.in-Move.is c.in-FctIn.is c.fct_in.ensures.made

pub returns-in-Arrive-clause-made : goal.returns-in-Arrive-clause-made
returns-in-Arrive-clause-made g c = made_of c.args.network.now c.args.w c.args.cell.now c.arrive.new.cell c.args.wires.now c.arrive.new.wires c.arrive.result c.args.step.now c.in-Move.step (Arrive c.in-Arrive.channel) c.in-Move.is c.in-Arrive.is c.arrive.ensures.made

pub returns-in-Grant-clause-made : goal.returns-in-Grant-clause-made
returns-in-Grant-clause-made g c = made_of c.args.network.now c.args.w c.args.cell.now c.grant.new.cell c.args.wires.now c.args.wires.now c.grant.result c.args.step.now c.in-Move.step (Grant c.in-Grant.output c.in-Grant.channel) c.in-Move.is c.in-Grant.is (c.grant.ensures.made c.args.wires.now)

pub returns-in-Drop-clause-made : goal.returns-in-Drop-clause-made
returns-in-Drop-clause-made g c = made_of c.args.network.now c.args.w c.args.cell.now c.drop_front.new.cell c.args.wires.now c.args.wires.now c.drop_front.result c.args.step.now c.in-Move.step (Drop c.in-Drop.channel) c.in-Move.is c.in-Drop.is (c.drop_front.ensures.made c.args.wires.now)

pub returns-in-Forward-clause-made : goal.returns-in-Forward-clause-made
returns-in-Forward-clause-made g c = made_of c.args.network.now c.args.w c.args.cell.now c.forward.new.cell c.args.wires.now c.forward.new.wires c.forward.result c.args.step.now c.in-Move.step (Forward c.in-Forward.channel) c.in-Move.is c.in-Forward.is c.forward.ensures.made

pub returns-in_default-clause-made : goal.returns-in_default-clause-made
returns-in_default-clause-made g c =
    let no = c.in_default in
    let at = subst (λ k. cell_of (network_of c.args.network.now) k ≡ AtSwitch c.args.w) (ap machine_step c.in-Move.is) c.requires.at in
    absurd (never c.args.network.now c.args.w c.in-Move.step at no.not-Fct no.not-FctIn no.not-Arrive no.not-Grant no.not-Drop no.not-Forward no.not-Spill)
