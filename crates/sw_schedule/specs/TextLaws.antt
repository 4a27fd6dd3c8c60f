-- What holds of the texts that are written of histories.
use Rattle.std.specs.Prelude.{◌≡◌, ℕ, ◌<◌, ◌≤◌, true, List, length, All, Some, Ok}
use Rattle.sw_config.specs.Entries.{Declaration, flow_names, part_names}
use Rattle.sw_config.specs.Valid.{IsValid}
use Rattle.sw_load.specs.History.{IsHistory, packets_of}
use Rattle.sw_load.specs.Load.{LoadEntry, load_text}
use Rattle.sw_machine.specs.State.{State}
use Rattle.sw_machine.specs.Steps.{Step}
use Rattle.sw_machine.specs.Model.{network_of}
use Rattle.sw_schedule.specs.Schedule.{steps_of_text}
use Rattle.sw_schedule.specs.Runs.{readable_text}
use Rattle.sw_text.specs.Names.{is_name}

-- the names of nodes, switches and flows are such as a network file may give
pub record HasNames (d : Declaration) : Type 0 where
  pub parts : All (λ name. is_name name ≡ true) (part_names d)
  pub flows : All (λ name. is_name name ≡ true) (flow_names d.flows)

-- bytes, and no more than a line of a schedule may have
pub record IsShort (cargo : List ℕ) : Type 0 where
  pub bytes : All (λ b. b < 256) cargo
  pub few : length cargo ≤ 4096

-- the cargo of each packet of a load that was read
abbrev pub ListedAreShort : Type 0
ListedAreShort = (d : Declaration) (bytes : List ℕ) (load : List LoadEntry) → load_text d bytes ≡ Ok load → All (λ p. IsShort p.cargo) load

-- What is written of the steps of a history is read as these steps.
abbrev pub SchedulesAreRead : Type 0
SchedulesAreRead = (d : Declaration) (load : List LoadEntry) (steps : List Step) (s : State) (text : List ℕ)
    → IsValid d → HasNames d → All (λ p. IsShort p.cargo) load → IsHistory (network_of d) (packets_of load) steps s
    → readable_text d steps ≡ Some text → steps_of_text d text ≡ Ok steps
