use Rattle.std.proofs.Common.{◌≡◌, ◌++◌, ℕ, List, All, take}
use Rattle.sw_faults.specs.Places.{IsClosing}
use Rattle.sw_faults.proofs.offset.holds.Given as goal

abbrev pub invariant-loop-frame : goal.invariant-loop-frame
invariant-loop-frame l = (closing : List ℕ) × All IsClosing closing × (l.closed.items ≡ take l.offset l.text ++ closing)
