-- A step that the code hands on, as a step of the machine.
use Rattle.sw_machine.specs.Steps as machine
use Rattle.sw_machine.specs.declared.step.Move.{Move}
use Rattle.sw_machine.specs.declared.step.Move.TheVariants.{Fct, FctIn, Arrive, Grant, Drop, Forward, Spill, Emit, Accept, Reply}
use Rattle.sw_machine.specs.declared.step.Step.{Step}
use Rattle.sw_machine.specs.declared.step.Step.TheVariants as step

abbrev pub machine_move : Move → machine.Step
machine_move (Fct c) = machine.Fct c
machine_move (FctIn c) = machine.FctIn c
machine_move (Arrive c) = machine.Arrive c
machine_move (Grant d c) = machine.Grant d c
machine_move (Drop c) = machine.Drop c
machine_move (Forward c) = machine.Forward c
machine_move (Spill c) = machine.Spill c
machine_move (Emit n) = machine.Emit n
machine_move (Accept n) = machine.Accept n
machine_move (Reply n) = machine.Reply n

abbrev pub machine_step : Step → machine.Step
machine_step (step.Move move) = machine_move move
machine_step (step.Begin flow cargo end) = machine.Begin flow cargo.items end
