-- What the seats of the table know.
use Rattle.std.specs.Prelude.{List, None, Option as Answer, Some, [], false, length, slice_get, slice_set, true, ℕ, ◌++◌, ◌∷◌, ◌≡◌}
use mathlib.Core.Option.{Option, none, some}
use lib.ListN.{get_elem?}
use Rattle.atomic_table.specs.Seated.{TableId}
use Rattle.atomic_table.specs.Table.{Me, Step}
use Rattle.sw_cell.specs.declared.cell.CellId.{CellId}
use Rattle.sw_cell.specs.declared.cell.CellId.TheVariants as place
use Rattle.sw_net.specs.declared.numbers.Numbers.{Numbers}
use Rattle.sw_journal.specs.declared.cell_table.SeatChange.{SeatChange}
use Rattle.sw_journal.specs.declared.cell_table.SeatChange.TheVariants as told
use Rattle.sw_journal.specs.declared.cell_table.Known.{Known}
use Rattle.sw_journal.specs.declared.cell_table.View.{View}

-- the name of no table
abbrev pub no_table : TableId
no_table = record { words = 0; slots = 0; views_name = 0; atom = 0; block = 0; offset = 0; slot_names = [] }

-- what stands where a seat stands for no cell
abbrev pub no_cell : Known
no_cell = record { id = place.Node 0; ends = [] }

-- the journal's seat, which knows this of the cells
abbrev pub knower : List Known → View
knower all = record { keeps = true; all = all; claims = false; cell = 0; known = no_cell }

-- a seat that stands for a cell, of which it knows this
abbrev pub holder : ℕ → Known → View
holder cell known = record { keeps = false; all = []; claims = true; cell = cell; known = known }

-- a seat that stands for nothing
abbrev pub nobody : View
nobody = record { keeps = false; all = []; claims = false; cell = 0; known = no_cell }

-- the journal's seat, which stands for a cell too
abbrev pub shown : View → View → View
shown v w = record { keeps = v.keeps; all = v.all; claims = w.claims; cell = w.cell; known = w.known }

-- the seat keeps what it knows of all cells, and stands for none
abbrev pub kept_of : View → View
kept_of v = record { keeps = v.keeps; all = v.all; claims = false; cell = 0; known = no_cell }

-- what it stands for
abbrev pub held_of : View → View
held_of v = record { keeps = false; all = []; claims = v.claims; cell = v.cell; known = v.known }

-- what the rule says of one seat
abbrev pub Fits : ℕ → List Known → (ℕ → ℕ) → ℕ → View → Type 0
Fits seat all owner by v =
    (v.keeps ≡ true → (by ≡ seat) × (v.all ≡ all))
    × (v.claims ≡ true → (slice_get all v.cell ≡ Some v.known) × (owner v.cell ≡ by))

-- one seat at most is the journal's, one at most stands for each cell, and what it knows is what the journal's knows of that cell
abbrev pub Kept : List View → Type 0
Kept views =
    (seat : ℕ) × (all : List Known) × (owner : ℕ → ℕ)
    × ((by : ℕ) (v : View) → get_elem? views by ≡ some v → Fits seat all owner by v)

-- a load shows the journal's seat that what it knows of the cell is what the journal's knows
abbrev pub Checked : Step SeatChange → Me SeatChange View → ℕ → Me SeatChange View → Type 0
Checked s v n w = (w ≡ v) × (v.0.claims ≡ true → slice_get v.0.all v.0.cell ≡ Some v.0.known)

-- this is known from now on of the cell that the seat stands for
abbrev pub with_known : View → Known → View
with_known v known = record { keeps = v.keeps; all = slice_set v.all v.cell known; claims = v.claims; cell = v.cell; known = known }

-- the ends with these numbers at a place
abbrev pub ends_with : List (ℕ × Numbers) → ℕ → Numbers → Answer (ℕ × Numbers) → List (ℕ × Numbers)
ends_with ends at numbers None = ends
ends_with ends at numbers (Some end) = slice_set ends at (end.0, numbers)

-- the link end at this place has these numbers from now on
abbrev pub changed : View → ℕ → Numbers → View
changed v at numbers = with_known v (record { id = v.known.id; ends = ends_with v.known.ends at numbers (slice_get v.known.ends at) })

abbrev pub changed_by : View → Option SeatChange → View
changed_by v none = v
changed_by v (some (told.Numbers at numbers)) = changed v at numbers
changed_by v (some change) = v

abbrev pub Changed : Step SeatChange → Me SeatChange View → ℕ → Me SeatChange View → Type 0
Changed s v n w = w ≡ (changed_by v.0 s.said, v.1)

-- the cell has one more link end, with these numbers
abbrev pub pushed : View → ℕ → Numbers → View
pushed v end numbers = with_known v (record { id = v.known.id; ends = v.known.ends ++ (end, numbers) ∷ [] })

abbrev pub pushed_by : View → Option SeatChange → View
pushed_by v none = v
pushed_by v (some (told.End end numbers)) = pushed v end numbers
pushed_by v (some change) = v

abbrev pub Pushed : Step SeatChange → Me SeatChange View → ℕ → Me SeatChange View → Type 0
Pushed s v n w = w ≡ (pushed_by v.0 s.said, v.1)

-- a new cell, of which this is known
abbrev pub grown : View → Known → View
grown v known = record { keeps = v.keeps; all = v.all ++ known ∷ []; claims = true; cell = length v.all; known = known }

-- a new cell, with no link end
abbrev pub opened : View → CellId → View
opened v id = grown v (record { id = id; ends = [] })

abbrev pub opened_by : View → Option SeatChange → View
opened_by v none = v
opened_by v (some (told.Cell id)) = opened v id
opened_by v (some change) = v

abbrev pub Opened : Step SeatChange → Me SeatChange View → ℕ → Me SeatChange View → Type 0
Opened s v n w = w ≡ (opened_by v.0 s.said, v.1)
