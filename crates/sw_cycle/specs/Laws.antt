-- What a shown cycle shows.
use Rattle.std.specs.Prelude.{ℕ, ◌<◌, List, length}
use Rattle.sw_config.specs.Entries.{Declaration}
use Rattle.sw_config.specs.Valid.{IsValid}
use Rattle.sw_machine.specs.Places.{IsCycle, IsDependency, IsRising}
use Rattle.sw_machine.specs.Model.{network_of}
use Rattle.sw_cycle.specs.Cycles.{CauseEntry, CycleEntry, IsCause, IsShown}
use Rattle.sw_cycle.specs.Causes.{AreChosen, IsRound}

-- in a valid network a cause for two channels shows a dependency of the first on the second
abbrev pub CausesShowDependencies : Type 0
CausesShowDependencies = (d : Declaration) → IsValid d → (cause : CauseEntry) (c e : ℕ) → IsCause d cause c e → IsDependency (network_of d) c e

-- the channels of a shown cycle are a cycle of dependencies
abbrev pub ShownCyclesAreCycles : Type 0
ShownCyclesAreCycles = (d : Declaration) → IsValid d → (cycle : CycleEntry) → IsShown d cycle → IsCycle (network_of d) cycle.channels

-- where a cycle is shown, no numbers rise along the dependencies
abbrev pub ShownCyclesRuleOutRising : Type 0
ShownCyclesRuleOutRising = (d : Declaration) → IsValid d → (cycle : CycleEntry) → IsShown d cycle → (number : ℕ → ℕ) → IsRising (network_of d) number → ⊥

-- channels, if there are any, are a shown cycle with the causes that are chosen for them
abbrev pub ChosenCausesShowCycles : Type 0
ChosenCausesShowCycles =
    (d : Declaration) (channels : List ℕ) (causes : List CauseEntry) → 0 < length channels → AreChosen d channels causes → IsShown d (record { channels = channels; causes = causes })

-- each channel of a shown cycle may wait for the next one, and the last for the first
abbrev pub ShownCyclesAreRounds : Type 0
ShownCyclesAreRounds = (d : Declaration) → IsValid d → (cycle : CycleEntry) → IsShown d cycle → IsRound d cycle.channels
