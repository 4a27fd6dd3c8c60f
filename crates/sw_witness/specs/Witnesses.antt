-- A schedule that leads a network into a lock-up.
use Rattle.std.specs.Prelude.{◌≡◌, ℕ, List, Ok}
use Rattle.sw_config.specs.Entries.{Declaration}
use Rattle.sw_machine.specs.Limits.{KeepsLimits}
use Rattle.sw_machine.specs.Runs.{IsLockedUp, Run}
use Rattle.sw_machine.specs.State.{State, empty}
use Rattle.sw_machine.specs.Steps.{Step}
use Rattle.sw_machine.specs.Model.{network_of}
use Rattle.sw_schedule.specs.Schedule.{steps_of_text}

-- from the empty state on, these steps lead to a state in which the network is locked up; so each packet that they begin is one that its
-- flow declares; and they keep the limits on unanswered commands
pub record LeadsToLockUp (d : Declaration) (steps : List Step) : Type 0 where
  pub state : State
  pub run : Run (network_of d) (empty (network_of d)) steps state
  pub keeps : KeepsLimits (network_of d) steps
  pub locked_up : IsLockedUp (network_of d) state

-- the text is a schedule whose steps do
pub record LocksUp (d : Declaration) (text : List ℕ) : Type 0 where
  pub steps : List Step
  pub listed : steps_of_text d text ≡ Ok steps
  pub leads : LeadsToLockUp d steps
