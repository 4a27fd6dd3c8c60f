-- Which entries of a list pass (this project's choice).
use Rattle.std.specs.Prelude.{ℕ, suc, Bool, List, [], ◌∷◌, Option, Some, None, if◌then◌else◌}
use Rattle.toml.specs.Data.{Members}
use Rattle.sw_text.specs.declared.keys.Key.{Key}
use Rattle.sw_faults.specs.Entries.{tables_of}

-- the places of the tables that pass, in order, where the first is counted as n
abbrev pub places_from : (Members → Bool) → ℕ → List Members → List ℕ
places_from test n [] = []
places_from test n (table ∷ tables) = if test table then n ∷ places_from test (suc n) tables else places_from test (suc n) tables

-- the places of the entries of a list of a table that pass
abbrev pub indices_of : (Members → Bool) → Key → Members → List ℕ
indices_of test list table = places_from test 0 (tables_of list table)

abbrev pub first : List ℕ → Option ℕ
first [] = None
first (place ∷ places) = Some place

-- the place of the first that passes
abbrev pub first_index : (Members → Bool) → Key → Members → Option ℕ
first_index test list table = first (indices_of test list table)
