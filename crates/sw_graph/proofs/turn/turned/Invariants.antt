use Rattle.std.proofs.Common.{ℕ, ◌<◌, ◌≤◌, length}
use Rattle.std.specs.Prelude.{slice_index}
use Rattle.sw_graph.proofs.turn.turned.Given as goal

abbrev pub invariant-loop-i : goal.invariant-loop-i
invariant-loop-i l = record { inside : l.lowest < length l.walked; least : (k : ℕ) → k < l.i → slice_index l.walked l.lowest ≤ slice_index l.walked k }
