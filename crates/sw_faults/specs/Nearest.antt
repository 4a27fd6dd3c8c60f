-- The text of a list that is most like another text (this project's choice).
use Rattle.std.specs.Prelude.{ℕ, Bool, List, Option, ◌==◌, ◌&&◌, find, length, nat_eq, nat_le, nat_lt}
use Rattle.std.specs.Str.{chars, str_eq_ignore_ascii_case}
use Rattle.strsim.specs.Edits.{levenshtein_row}
use Rattle.sw_topo.specs.Checked.{first_of}

-- the least count of single insertions, deletions and changes of characters that lead from one text to the other
abbrev pub distance : List ℕ → List ℕ → ℕ
distance name text = levenshtein_row nat_eq (chars name) (chars text) (length (chars text))

-- the text is at this distance from a longer name, which is of at most 64 bytes
abbrev pub is_near : List ℕ → ℕ → List ℕ → Bool
is_near name count text = nat_lt count (length name) && (nat_le (length name) 64 && distance name text == count)

-- the first text at a distance of 1, or else of 2; none that is farther away, or as far as the name is long
abbrev pub nearest : List ℕ → List (List ℕ) → Option (List ℕ)
nearest name texts = first_of (find (is_near name 1) texts) (find (is_near name 2) texts)

-- the first text that differs by the case of its letters alone, or else the nearest
abbrev pub like : List ℕ → List (List ℕ) → Option (List ℕ)
like name texts = first_of (find (λ t. str_eq_ignore_ascii_case t name) texts) (nearest name texts)
