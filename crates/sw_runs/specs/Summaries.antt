-- The summary of a run (this project's choice).
use Rattle.std.specs.Prelude.{◌≡◌, ◌↔◌, ◌++◌, ℕ, Bool, true, false, IsTrue, List, [], Option, Some, None}
use Rattle.std.specs.Option.{option_map_or}
use Rattle.sw_config.specs.Entries.{Declaration}
use Rattle.sw_summary.specs.Fills.{AreFillsOrNone}
use Rattle.sw_summary.specs.BufferLines.{fill_lines}
use Rattle.sw_load.specs.Load.{LoadEntry}
use Rattle.sw_machine.specs.Packets.{Packet}
use Rattle.sw_machine.specs.Steps.{Step}
use Rattle.sw_machine.specs.Model.{network_of}
use Rattle.sw_run.specs.Outcomes.{came_out_of, steps_of}
use Rattle.sw_run.specs.declared.outcome.Outcome.{Outcome}
use Rattle.sw_run.specs.declared.outcome.Stop.{Stop}
use Rattle.sw_run.specs.declared.outcome.Stop.TheVariants.{Drained}
use Rattle.sw_search.specs.Laws.{RoutedAndFree}
use Rattle.sw_summary.specs.Texts.{summary_text}

-- all was delivered although the network is not free: this shows nothing of other runs
abbrev pub ShowsNothing : Declaration → Stop → Type 0
ShowsNothing d stop = (stop ≡ Drained) × (RoutedAndFree d → ⊥)

-- how full the buffers of a network get while these steps are made, a line for each that held something
abbrev pub AreFillsTold : Declaration → List Step → List ℕ → Type 0
AreFillsTold d steps text =
    (fills : Option (List ℕ)) × AreFillsOrNone (network_of d) steps fills × (text ≡ option_map_or (fill_lines d) fills [])

-- the summary of these steps and of what came out, with a word of warning or without
abbrev pub IsSummaryOf : Declaration → List LoadEntry → List Step → List (List Packet) → Bool → List ℕ → Type 0
IsSummaryOf d load steps out warned text =
    (filled : List ℕ) × AreFillsTold d steps filled × (text ≡ summary_text d load steps out warned ++ filled)

-- the summary of an outcome, with the warning exactly where it shows nothing
abbrev pub IsSummary : Declaration → List LoadEntry → Outcome → List ℕ → Type 0
IsSummary d load o text = (warned : Bool) × (IsTrue warned ↔ ShowsNothing d o.stop) × IsSummaryOf d load (steps_of o) (came_out_of o) warned text

-- if it is wanted
abbrev pub IsWantedSummary : Bool → Declaration → List LoadEntry → Outcome → Option (List ℕ) → Type 0
IsWantedSummary true d load o (Some text) = IsSummary d load o text
IsWantedSummary true d load o None = ⊥
IsWantedSummary false d load o text = text ≡ None
