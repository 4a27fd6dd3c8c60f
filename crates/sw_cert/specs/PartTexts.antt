-- A certificate's text in parts.
use Rattle.std.specs.Prelude.{ℕ, List, [], ◌∷◌, ◌++◌, length, codes}
use Rattle.std.specs.List.{flat_map}
use Rattle.std.specs.Fmt.{decimal}
use Rattle.sw_flow.specs.declared.place.Place.{Place}
use Rattle.sw_cert.specs.Grammar.{block, head_lines, with_lf}

-- the text before the lists of m flows
abbrev pub head_text : List ℕ → ℕ → List ℕ
head_text numbers m = flat_map with_lf (head_lines (length numbers) numbers ++ (codes "flows " ++ decimal m) ∷ [])

-- the text of the flows' lists; behind it stands the last line
abbrev pub lists_text : List (List Place) → List ℕ
lists_text flows = flat_map with_lf (flat_map block flows)
