-- Where a network is locked up: what each of its cells has of the state then.
use Rattle.std.specs.List.{AllZip, range_with_len}
use Rattle.std.specs.Prelude.{◌≡◌, ◌++◌, List, [], None, Option, Some, length, map}
use Rattle.sw_net.specs.CellId.{CellId}
use Rattle.sw_net.specs.CellId.TheVariants.{Node, Switch}
use Rattle.sw_config.specs.Entries.{Declaration}
use Rattle.sw_machine.specs.Runs.{IsLockedUp}
use Rattle.sw_machine.specs.State.{State, empty}
use Rattle.sw_machine.specs.Steps.{Step}
use Rattle.sw_machine.specs.Model.{network_of}
use Rattle.sw_net.specs.Net.{IsNetState, NetView}
use Rattle.sw_net.specs.Parts.{IsPartOf}
use Rattle.sw_net.specs.declared.part.Part.{Part}
use Rattle.sw_schedule.specs.declared.replayed.ReplayEnd.{ReplayEnd}
use Rattle.sw_schedule.specs.declared.replayed.ReplayEnd.TheVariants.{Made, Refused}
use Rattle.sw_schedule.specs.Replays.{Ends}

-- the cells of a network: the nodes by number, and then the switches by number
abbrev pub cells_of : Declaration → List CellId
cells_of d = map Node (range_with_len 0 (length d.nodes)) ++ map Switch (range_with_len 0 (length d.switches))

-- they tell, cell by cell, what the state has of it
abbrev pub ArePartsOf : Declaration → State → List Part → Type 0
ArePartsOf d s parts = AllZip (IsPartOf d s) (cells_of d) parts

-- Some: all steps are made, from the empty state on, the network is locked up then, and these are the cells' parts of that state;
-- None: some step is refused, or the network is not locked up in the end
abbrev pub TellsLocked : Declaration → List Step → Option (List Part) → Type 0
TellsLocked d steps (Some parts) =
    (s : State) × Ends (network_of d) [] (empty (network_of d)) steps (Made (length steps)) s × IsLockedUp (network_of d) s × ArePartsOf d s parts
TellsLocked d steps None =
    (s : State) × (o : ReplayEnd) × Ends (network_of d) [] (empty (network_of d)) steps o s × (o ≡ Made (length steps) → IsLockedUp (network_of d) s → ⊥)

-- ---- the same of a network's cells, in each state that they are the parts of

-- what each of these cells has
abbrev pub ArePartsAt : {R A : Type 0} → NetView R A → List CellId → List Part → Type 0
ArePartsAt v cells parts = (s : State) → IsNetState v s → AllZip (IsPartOf v.declared s) cells parts

-- what each of its cells has
abbrev pub ArePartsOfNet : {R A : Type 0} → NetView R A → List Part → Type 0
ArePartsOfNet v parts = (s : State) → IsNetState v s → ArePartsOf v.declared s parts

-- Some: the network is locked up, and these are the cells' parts; None: it is not
abbrev pub TellsLockedParts : {R A : Type 0} → NetView R A → Option (List Part) → Type 0
TellsLockedParts v (Some parts) = (s : State) → IsNetState v s → IsLockedUp (network_of v.declared) s × ArePartsOf v.declared s parts
TellsLockedParts v None = (s : State) → IsNetState v s → IsLockedUp (network_of v.declared) s → ⊥

-- the same where all steps were made, and none where one was refused
abbrev pub TellsLockedAt : {R A : Type 0} → NetView R A → ReplayEnd → Option (List Part) → Type 0
TellsLockedAt v (Made count) parts = TellsLockedParts v parts
TellsLockedAt v (Refused number refusal) parts = parts ≡ None
