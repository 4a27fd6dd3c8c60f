use Rattle.std.proofs.Common.{◌≡◌, ℕ, [], length}
use Rattle.sw_graph.specs.Rows.{row}
use Rattle.sw_cycle.proofs.positions.positions_of.Given as goal

abbrev pub invariant-loop : goal.invariant-loop
invariant-loop l = ((c : ℕ) → row l.rows.items c ≡ []) × (length l.rows.items ≡ l.counter)
