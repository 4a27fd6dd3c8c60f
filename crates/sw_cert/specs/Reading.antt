-- What the lines so far have said.
use Rattle.std.specs.Prelude.{◌≡◌, ℕ, zero, Bool, true, false, List, [], ◌∷◌, ◌++◌, length, map, Option, Some, None, option_map, slice_get, ◌-◌, Vec}
use Rattle.std.specs.declared.alloc.Global.{Global}
use Rattle.sw_flow.specs.declared.place.Place.{Place}
use Rattle.sw_cert.specs.declared.lines.Expected.{Expected}
use Rattle.sw_cert.specs.declared.lines.Expected.TheVariants.{Places}
use Rattle.sw_cert.specs.declared.lines.Said.{Said}
use Rattle.sw_cert.specs.declared.lines.Said.TheVariants as said
use Rattle.sw_cert.specs.declared.draft.Draft.{Draft}
use Rattle.sw_cert.specs.Grammar.{moved, said_by}

-- `open` has the places of the block that is not whole yet
pub record State : Type 0 where
  pub expected : Expected
  pub numbers : List ℕ
  pub flows : List (List Place)
  pub open_block : List Place

abbrev pub items_of : Vec Place Global → List Place
items_of v = v.items

abbrev pub state_of : Draft → State
state_of d = record { expected = d.expected; numbers = d.numbers.items; flows = map items_of d.flows.items; open_block = d.block.items }

-- a place is put into its block, and a block that is whole into the list
abbrev pub with_place : State → Place → Expected → State
with_place d p (Places zero k) = record d { flows = d.flows ++ (d.open_block ++ p ∷ []) ∷ []; open_block = [] }
with_place d p e = record d { open_block = d.open_block ++ p ∷ [] }

abbrev pub with_said : State → Said → State
with_said d (said.Number v) = record d { numbers = d.numbers ++ v ∷ [] }
with_said d (said.PlaceCount zero) = record d { flows = d.flows ++ [] ∷ [] }
with_said d (said.Listed p) = with_place d p d.expected
with_said d s = d

abbrev pub last_of : List Place → Option Place
last_of block = slice_get block (length block - 1)

-- the state after a line, if the line is as the grammar asks
abbrev pub next : State → List ℕ → Option State
next d line = option_map (λ s. record (with_said d s) { expected = moved d.expected s }) (said_by d.expected (last_of d.open_block) line)

-- whether the line was as the grammar asks, and the state after it
abbrev pub Follows : State → List ℕ → Bool → State → Type 0
Follows d line true e = next d line ≡ Some e
Follows d line false e = next d line ≡ None
