-- What holds of the texts of schedules.
use Rattle.std.specs.Prelude.{◌≡◌, ◌↔◌, ℕ, ◌≤◌, true, List, [], ◌∷◌, ◌++◌, length, map, Some, Ok}
use Rattle.std.specs.List.{flat_map}
use Rattle.sw_machine.specs.Steps.{Step}
use Rattle.sw_config.specs.Entries.{Declaration}
use Rattle.sw_schedule.specs.Lines.{is_skipped, steps_of_line}
use Rattle.sw_schedule.specs.Schedule.{with_lines}

-- the lines of a text are read as these steps
abbrev pub AreRead : Declaration → List (List ℕ) → List Step → Type 0
AreRead d lines steps = with_lines d 1 [] lines ≡ Ok steps

-- each line says some steps, and these one after another are the steps, at most 1,000,000
pub record AreStepsOf (d : Declaration) (lines : List (List ℕ)) (steps : List Step) : Type 0 where
  pub parts : List (List Step)
  pub each : map (λ line. steps_of_line d line) lines ≡ map Some parts
  pub all : steps ≡ flat_map (λ part. part) parts
  pub few : length steps ≤ 1000000

-- Lines are read as the steps that they say.
abbrev pub LinesAreRead : Type 0
LinesAreRead = (d : Declaration) (lines : List (List ℕ)) (steps : List Step) → AreRead d lines steps ↔ AreStepsOf d lines steps

-- An empty line, or one that begins with `#`, may stand anywhere, and changes no steps.
abbrev pub SkippedLinesSayNothing : Type 0
SkippedLinesSayNothing = (d : Declaration) (before after : List (List ℕ)) (line : List ℕ) (steps : List Step) → is_skipped line ≡ true → AreRead d (before ++ line ∷ after) steps ↔ AreRead d (before ++ after) steps
