use Rattle.std.proofs.Common.{◌≡◌, ◌≤◌}
use Rattle.sw_arb.specs.PortCounts.{ports_below}
use Rattle.sw_arb.proofs.count.ports_below.Given as goal

abbrev pub invariant-loop-below : goal.invariant-loop-below
invariant-loop-below l = record { counted : l.count ≡ ports_below l.ports l.below; most : l.count ≤ l.below }
