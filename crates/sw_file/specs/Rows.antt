-- The entries of a routing table as rows of neighbours, each of which one entry of a version 2 file says.
use Rattle.std.specs.Prelude.{ℕ, suc, ◌==◌, Bool, ◌&&◌, List, [], ◌∷◌, fold, if◌then◌else◌}
use Rattle.std.specs.Bool.{beq}
use Rattle.std.specs.Str.{bytes_eq}
use Rattle.toml.specs.Data.{Members}

-- an entry of version 1: its table, and what that says: the logical address, the list of ports as written, and whether the address is deleted
pub record Entry : Type 0 where
  pub table : Members
  pub address : ℕ
  pub ports : List ℕ
  pub delete : Bool

-- a row of entries: the first of them, and the address of the last
pub record Row : Type 0 where
  pub first : Entry
  pub last : ℕ

-- an entry as a row of its own
abbrev pub alone : Entry → Row
alone e = record { first = e; last = e.address }

-- the entry goes on with the row: it is for the next address, has the same list of ports, and deletes the address or keeps it alike
abbrev pub goes_on : Row → Entry → Bool
goes_on r e = e.address == suc r.last && bytes_eq e.ports r.first.ports && beq e.delete r.first.delete

-- one more entry: it becomes the end of the last row where it goes on with it, and else a row of its own
abbrev pub after : List Row → Entry → List Row
after [] e = alone e ∷ []
after (r ∷ []) e = if goes_on r e then record { first = r.first; last = e.address } ∷ [] else r ∷ alone e ∷ []
after (r ∷ s ∷ rs) e = r ∷ after (s ∷ rs) e

-- the entries as rows
abbrev pub rows : List Entry → List Row
rows es = fold after [] es
