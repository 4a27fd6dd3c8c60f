-- What a call asks to be told on standard error (this project's choice).
use Rattle.std.specs.Prelude.{ℕ, Bool, List, Option, Some, None, codes, option_and_then, option_map, if◌then◌else◌}
use Rattle.std.specs.Str.{bytes_eq}
use Rattle.sw_calls.specs.declared.telling.Hints.{Hints}
use Rattle.sw_calls.specs.declared.telling.Hints.TheVariants as hints
use Rattle.sw_calls.specs.declared.telling.Notes.{Notes}
use Rattle.sw_calls.specs.declared.telling.Notes.TheVariants as notes
use Rattle.sw_calls.specs.declared.telling.Telling.{Telling}

-- what was given at `--hints`
abbrev pub hints_of : Option (List ℕ) → Option Hints
hints_of None = Some hints.Auto
hints_of (Some word) =
    if bytes_eq word (codes "auto") then Some hints.Auto
    else if bytes_eq word (codes "never") then Some hints.Never
    else None

-- what was given at `--notes`
abbrev pub notes_of : Option (List ℕ) → Option Notes
notes_of None = Some notes.Few
notes_of (Some word) =
    if bytes_eq word (codes "few") then Some notes.Few
    else if bytes_eq word (codes "all") then Some notes.All
    else if bytes_eq word (codes "never") then Some notes.Never
    else None

-- what is wanted by what was given at `--hints`, `--notes` and `--all-faults`
abbrev pub telling_of : Option (List ℕ) → Option (List ℕ) → Bool → Option Telling
telling_of at_hints at_notes all_faults =
    option_and_then (λ hints. option_map (λ notes. record { hints = hints; notes = notes; all_faults = all_faults }) (notes_of at_notes)) (hints_of at_hints)
