-- The text of a schedule, which lists steps line by line (its format is this project's choice).
use Rattle.std.specs.Prelude.{◌≡◌, ℕ, ◌+◌, ◌==◌, ◌≤◌, nat_le, List, [], ◌∷◌, ◌++◌, length, Result, Ok, Err, replicate, if◌then◌else◌}
use Rattle.std.specs.Option.{option_map_or}
use Rattle.std.specs.List.{flat_map, slice_split}
use Rattle.sw_machine.specs.Steps.{Step}
use Rattle.sw_config.specs.Entries.{Declaration}
use Rattle.sw_schedule.specs.Lines.{Repeated, steps_of_line}

-- each step as many times as it is made
abbrev pub steps_of : List Repeated → List Step
steps_of entries = flat_map (λ r. replicate r.count r.step) entries

-- so many steps, at most 1,000,000
pub record IsTotal (entries : List Repeated) (total : ℕ) : Type 0 where
  pub same : total ≡ length (steps_of entries)
  pub few : total ≤ 1000000

-- the steps with these of line n, of at most 1,000,000 in all, or the number of the line
abbrev pub with_steps : ℕ → List Step → List Step → Result (List Step) ℕ
with_steps n before steps = if nat_le (length before + length steps) 1000000 then Ok (before ++ steps) else Err n

-- the steps with those of line n, or the number of the line
abbrev pub with_line : Declaration → ℕ → List Step → List ℕ → Result (List Step) ℕ
with_line d n before line = option_map_or (with_steps n before) (steps_of_line d line) (Err n)

-- goes on from what was read
abbrev pub and_then : {A B : Type 0} → (A → Result B ℕ) → Result A ℕ → Result B ℕ
and_then f (Ok x) = f x
and_then f (Err n) = Err n

-- the steps with those of the lines from line n on, or the number of the first line that is wrong
abbrev pub with_lines : Declaration → ℕ → List Step → List (List ℕ) → Result (List Step) ℕ
with_lines d n before [] = Ok before
with_lines d n before (line ∷ lines) = and_then (λ steps. with_lines d (n + 1) steps lines) (with_line d n before line)

-- the lines of a text: what stands before, between and after its LFs
abbrev pub text_lines : List ℕ → List (List ℕ)
text_lines text = slice_split (λ b. b == 10) text

-- the steps that a text lists for a network, in order, or the number of its first wrong line, counted from 1
unfoldable pub steps_of_text : Declaration → List ℕ → Result (List Step) ℕ
steps_of_text d text = with_lines d 1 [] (text_lines text)
