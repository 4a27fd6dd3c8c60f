-- A packet that no flow declares is never begun.
use Rattle.sw_cell.specs.Places.{IsUndeclared}
use Rattle.sw_machine.specs.Network.{Network}
use Rattle.sw_machine.specs.State.{State}
use Rattle.sw_machine.specs.Steps.{Accept, Arrive, Begin, Drop, Emit, Fct, FctIn, Forward, Grant, IsPossible, Reply, Spill, Step}

pub never_begun : (net : Network) (s : State) (step : Step) → IsUndeclared net step → IsPossible net s step → ⊥
never_begun net s (Begin f cargo end) none p = none p.1.declared
never_begun net s (Fct c) none p = absurd none
never_begun net s (FctIn c) none p = absurd none
never_begun net s (Arrive c) none p = absurd none
never_begun net s (Grant d c) none p = absurd none
never_begun net s (Drop c) none p = absurd none
never_begun net s (Forward c) none p = absurd none
never_begun net s (Spill c) none p = absurd none
never_begun net s (Emit n) none p = absurd none
never_begun net s (Accept n) none p = absurd none
never_begun net s (Reply n) none p = absurd none
