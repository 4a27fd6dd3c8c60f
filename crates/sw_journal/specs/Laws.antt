-- What the numbers of a cell decide.
use Rattle.std.specs.Prelude.{IsSome, Some, ℕ, ◌↔◌, ◌≡◌, ◌≤◌}
use Rattle.sw_journal.specs.Cells.{end_numbers}
use Rattle.sw_journal.specs.Record.{CanCommit, CellView, IsNowCell, IsTrueView, JournalView}
use Rattle.sw_machine.specs.Network.{reverse_of}
use Rattle.sw_machine.specs.Steps.{Fct}
use Rattle.sw_net.specs.declared.numbers.Numbers.{Numbers}

-- What holds of each journal, each cell that has its numbers in the state after the history, and each channel.
abbrev pub OfNowCells : (JournalView → CellView → ℕ → Type 0) → Type 0
OfNowCells P = (j : JournalView) → IsTrueView j → (cell : CellView) → IsNowCell j cell → (c : ℕ) → P j cell c

-- The FCT for the channel may be the next step at the cell exactly where its numbers have room for the eight N-Chars that an FCT asks for,
-- and at most 48 outstanding (ECSS-E-ST-50-12C, data link layer: flow control).
abbrev pub IsByNumbers : JournalView → CellView → ℕ → Type 0
IsByNumbers j cell c = (n : Numbers) → end_numbers cell.ends (reverse_of c) ≡ Some n → CanCommit j cell.id (Fct c) ↔ ((8 ≤ n.room) × (n.outstanding ≤ 48))

-- where it may be, the cell has numbers for it
abbrev pub HasNumbers : JournalView → CellView → ℕ → Type 0
HasNumbers j cell c = CanCommit j cell.id (Fct c) → IsSome (end_numbers cell.ends (reverse_of c))
