-- How characters form packets (ECSS-E-ST-50-12C, network layer: a packet is its address, its cargo and an end marker).
use Rattle.std.specs.Prelude.{◌≡◌, ℕ, List, [], ◌∷◌, ◌++◌, map}
use Rattle.sw_char.specs.declared.nchar.NChar.{NChar}
use Rattle.sw_char.specs.declared.nchar.NChar.TheVariants.{Data, Eop, Eep}
use Rattle.sw_char.specs.declared.nchar.End.{End}
use Rattle.sw_char.specs.declared.nchar.End.TheVariants as ends
use Rattle.sw_char.specs.PacketView.{PacketView}

-- the character that marks this end
abbrev pub marker_of : End → NChar
marker_of ends.Eop = Eop
marker_of ends.Eep = Eep

-- the characters of a packet: its bytes, then its marker
abbrev pub chars_of : PacketView → List NChar
chars_of p = map Data p.bytes ++ marker_of p.end ∷ []

-- packets, one after another
abbrev pub chars : List PacketView → List NChar
chars [] = []
chars (p ∷ ps) = chars_of p ++ chars ps

-- the list is these whole packets, and then the data of one that no marker has ended yet
abbrev pub IsCut : List NChar → List PacketView → List ℕ → Type 0
IsCut l ps rest = l ≡ chars ps ++ map Data rest

-- each list of characters is cut at its markers in one way
abbrev pub HasOneCut : List NChar → Type 0
HasOneCut l = (ps : List PacketView) × (rest : List ℕ) × IsCut l ps rest × ((qs : List PacketView) (other : List ℕ) → IsCut l qs other → (qs ≡ ps) × (other ≡ rest))
