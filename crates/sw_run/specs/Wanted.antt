-- What a link end wants, by the numbers of its cell, and at which place the cell stands.
use Rattle.std.specs.Prelude.{Bool, None, Option, Some, false, nat_le, true, ℕ, ◌&&◌, ◌+◌}
use Rattle.sw_topo.specs.Wiring.{partner}
use Rattle.sw_topo.specs.declared.place.PlaceEnd.{PlaceEnd}
use Rattle.sw_topo.specs.declared.place.PlaceEnd.TheVariants.{Node, Switch}
use Rattle.sw_journal.specs.Record.{CanCommit, CellView, IsNowCell, IsTrueView, JournalView}
use Rattle.sw_machine.specs.Steps as machine
use Rattle.sw_journal.specs.Numbers.{Numbers}

-- A link end with these numbers is to send an FCT: there is room for the eight N-Chars that it asks for, and at most 48 are outstanding
-- (ECSS-E-ST-50-12C, data link layer: flow control).
abbrev pub wants_fct : Numbers → Bool
wants_fct n = nat_le 8 n.room && nat_le n.outstanding 48

-- a link end without numbers sends none
abbrev pub wants_by : Option Numbers → Bool
wants_by None = false
wants_by (Some n) = wants_fct n

-- true: the FCT for the channel that ends at the link end may be the next step at the cell; false: it may not
abbrev pub TellsOf : JournalView → CellView → ℕ → Bool → Type 0
TellsOf j cell end false = CanCommit j cell.id (machine.Fct (partner end)) → ⊥
TellsOf j cell end true = CanCommit j cell.id (machine.Fct (partner end))

-- so it is in each journal after whose history the cell has its numbers
abbrev pub TellsWhatMayFollow : CellView → ℕ → Bool → Type 0
TellsWhatMayFollow cell end wants = (j : JournalView) → IsTrueView j → IsNowCell j cell → TellsOf j cell end wants

-- where the cell of a place stands among the cells: first the nodes, then the switches
abbrev pub cell_place : ℕ → PlaceEnd → ℕ
cell_place nodes (Node n) = n
cell_place nodes (Switch w port) = nodes + w
