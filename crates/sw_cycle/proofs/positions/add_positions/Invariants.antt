use Rattle.std.proofs.Common.{◌≡◌, length}
use Rattle.sw_cycle.specs.Positions.{ArePositions}
use Rattle.sw_cycle.proofs.positions.add_positions.Given as goal

abbrev pub invariant-loop-position : goal.invariant-loop-position
invariant-loop-position l = (length l.rows ≡ length l.fn.rows) × ArePositions l.channels l.position l.rows
