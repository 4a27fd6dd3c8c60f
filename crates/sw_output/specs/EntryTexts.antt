-- How an entry of a routing table is named (this project's choice).
use Rattle.std.specs.Prelude.{ℕ, ◌==◌, List, [], ◌∷◌, codes, if◌then◌else◌, slice_get}
use Rattle.std.specs.Option.{option_map_or}
use Rattle.std.specs.Fmt.{decimal}
use Rattle.sw_config.specs.Entries.{Declaration, routes_of}
use Rattle.sw_output.specs.Lines.{spaced}

-- the addresses that a table entry is for
abbrev pub addresses_words : ℕ → ℕ → List ℕ
addresses_words first last =
    if first == last then spaced (codes "address" ∷ decimal first ∷ [])
    else spaced (codes "addresses" ∷ decimal first ∷ codes "to" ∷ decimal last ∷ [])

-- those of the entry of that number of that switch's table
abbrev pub entry_words : Declaration → ℕ → ℕ → List ℕ
entry_words d switch entry = option_map_or (λ r. addresses_words r.first r.last) (slice_get (routes_of d.switches switch) entry) []
