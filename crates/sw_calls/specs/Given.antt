-- How a program ends whose words give no call (this project's choice).
use Rattle.std.specs.Prelude.{◌≡◌, ◌⊎◌, ℕ, List}
use Rattle.sw_args.specs.CommandLine.{Refuses, words_status}
use Rattle.sw_args.specs.declared.call.WordsFault.{WordsFault}

-- with the status of a fault for which the words are refused, or with 6, where it could not be written
abbrev pub EndsRefused : List (List ℕ) → ℕ → Type 0
EndsRefused words status = (fault : WordsFault) × Refuses words fault × ((status ≡ words_status fault) ⊎ (status ≡ 6))
