-- Numbers between two words, ready to be written.
use Rattle.std.specs.Prelude.{◌≡◌, ℕ, ◌++◌, ◌∷◌, [], List, length, map, string_bytes, codes, String}
use Rattle.std.specs.declared.alloc.Global.{Global}
use Rattle.std.specs.List.{range_with_len}
use Rattle.std.specs.Fmt.{decimal}

-- the number between the words
abbrev pub piece : List ℕ → List ℕ → ℕ → List ℕ
piece before after n = before ++ (decimal n ++ after)

-- the texts are those of the first numbers, from 0 on
abbrev pub ArePieces : List ℕ → List ℕ → List (String Global) → Type 0
ArePieces before after texts = map string_bytes texts ≡ map (piece before after) (range_with_len 0 (length texts))

-- what a place's line begins with, up to its deleted bytes, by channel
abbrev pub AreHeads : List (String Global) → Type 0
AreHeads texts = ArePieces (codes "place ") (32 ∷ []) texts

-- what a place's line ends with, by deleted bytes
abbrev pub AreTails : List (String Global) → Type 0
AreTails texts = ArePieces [] (10 ∷ []) texts
