-- The text that is written of a list of steps, equal neighbours as one line with their count (this project's choice).
use Rattle.std.specs.Prelude.{ℕ, ◌+◌, ◌==◌, ◌&&◌, nat_le, nat_lt, Bool, false, List, [], ◌∷◌, Option, Some, None, flat_map, length, if◌then◌else◌}
use Rattle.std.specs.Fmt.{decimal}
use Rattle.std.specs.Str.{bytes_eq}
use Rattle.sw_config.specs.Entries.{Declaration}
use Rattle.sw_machine.specs.Steps.{Step, Fct, FctIn, Arrive, Grant, Drop, Forward, Spill, Begin, Emit, Accept, Reply}
use Rattle.sw_output.specs.Lines.{line}
use Rattle.sw_output.specs.Tallies.{end_rank}
use Rattle.sw_schedule.specs.Lines.{Repeated}
use Rattle.sw_schedule.specs.WrittenLines.{step_line}

-- the two are the same step
abbrev pub is_same : Step → Step → Bool
is_same (Fct c) (Fct e) = c == e
is_same (FctIn c) (FctIn e) = c == e
is_same (Arrive c) (Arrive e) = c == e
is_same (Grant d c) (Grant f e) = (d == f) && (c == e)
is_same (Drop c) (Drop e) = c == e
is_same (Forward c) (Forward e) = c == e
is_same (Spill c) (Spill e) = c == e
is_same (Begin flow cargo end) (Begin other more last) = (flow == other) && (end_rank end == end_rank last) && bytes_eq cargo more
is_same (Emit n) (Emit m) = n == m
is_same (Accept n) (Accept m) = n == m
is_same (Reply n) (Reply m) = n == m
is_same step other = false

-- the entries of these steps, behind a step that was made so often: an entry has its step at most 100,000 times
abbrev pub entries_from : Step → ℕ → List Step → List Repeated
entries_from last count [] = record { count = count; step = last } ∷ []
entries_from last count (step ∷ steps) =
    if nat_lt count 100000 && is_same step last then entries_from last (count + 1) steps
    else record { count = count; step = last } ∷ entries_from step 1 steps

abbrev pub entries_of : List Step → List Repeated
entries_of [] = []
entries_of (step ∷ steps) = entries_from step 1 steps

-- the step's line, behind its count where that is not 1
abbrev pub entry_line : Declaration → Repeated → List ℕ
entry_line d r = if r.count == 1 then line (step_line d r.step ∷ []) else line (decimal r.count ∷ step_line d r.step ∷ [])

-- a line for each entry
abbrev pub schedule_text : Declaration → List Step → List ℕ
schedule_text d steps = flat_map (entry_line d) (entries_of steps)

-- the text, if it has at most 67,108,864 bytes
abbrev pub short_text : List ℕ → Option (List ℕ)
short_text text = if nat_le (length text) 67108864 then Some text else None

-- the text, if it is one that a schedule may be, which has at most 1,000,000 steps
abbrev pub readable_text : Declaration → List Step → Option (List ℕ)
readable_text d steps = if nat_le (length steps) 1000000 then short_text (schedule_text d steps) else None
