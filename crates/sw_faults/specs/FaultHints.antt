-- Where a hint of a fault says that it stands.
use Rattle.std.specs.Prelude.{◌≡◌, ℕ, List, Option, option_map}
use Rattle.sw_faults.specs.FaultPlaces.{IsFaultPlace}
use Rattle.sw_faults.specs.LineColumn.{column_of, line_of}
use Rattle.sw_text.specs.declared.fault.TextFault.{TextFault}

-- the line and the column of a place that the fault has, or of none
abbrev pub IsAtFault : List ℕ → TextFault → Option ℕ → Option ℕ → Type 0
IsAtFault text fault line column =
    (place : Option ℕ) × IsFaultPlace text fault place × (line ≡ option_map (line_of text) place) × (column ≡ option_map (column_of text) place)
