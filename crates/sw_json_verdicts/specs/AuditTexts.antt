-- The texts of an audit (this project's choice).
use Rattle.std.specs.Prelude.{ℕ, max, Bool, List, [], ◌∷◌, ◌==◌, ◌||◌, filter, flat_map, map, not, unwrap_or}
use Rattle.std.specs.Fmt.{decimal}
use Rattle.std.specs.List.{reduce}
use Rattle.serde_json.specs.Data.{Data}
use Rattle.sw_json_verdicts.specs.Findings.{Finding}
use Rattle.sw_faults.specs.Shown.{shown}
use Rattle.sw_json.specs.FileValues.{audit_value}
use Rattle.sw_json.specs.Texts.{text_of}
use Rattle.sw_linter.specs.Lines.{line}

-- is the file told? With `--quiet` only where its status is not 0
abbrev pub is_told : Bool → ℕ → Bool
is_told quiet status = not quiet || not (status == 0)

-- what is told of files, in their order: their paths, and what was found of each
abbrev pub told : Bool → List (List ℕ × Finding) → List (List ℕ × Finding)
told quiet files = filter (λ p. is_told quiet p.1.status) files

-- the status, the verdict in a word, and the path as a terminal shows it
abbrev pub finding_line : List ℕ × Finding → List ℕ
finding_line p = line (decimal p.1.status ∷ p.1.word ∷ shown p.0 ∷ [])

-- a line for each file that is told
abbrev pub lines_text : Bool → List (List ℕ × Finding) → List ℕ
lines_text quiet files = flat_map finding_line (told quiet files)

-- the objects of those that are told
abbrev pub objects : Bool → List (List ℕ × Finding) → List Data
objects quiet files = map (λ p. p.1.object) (told quiet files)

-- one value for all of them, in one line
abbrev pub json_text : Bool → List ℕ → List ℕ → List (List ℕ × Finding) → List ℕ
json_text quiet toolchain version files = text_of (audit_value (objects quiet files) toolchain version)

-- the worst is the greatest: 6 before 5, 3, 1 and 0
abbrev pub worst : List Finding → ℕ
worst findings = unwrap_or (reduce max (map (λ f. f.status) findings)) 0
