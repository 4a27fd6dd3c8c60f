use Rattle.std.proofs.Common.{◌≡◌, map, take}
use Rattle.sw_switch.specs.Cell.{new_end}
use Rattle.sw_switch.proofs.make.empty_ends.Given as goal

abbrev pub invariant-loop-capacity : goal.invariant-loop-capacity
invariant-loop-capacity l = l.ends.items ≡ map new_end (take l.capacity-index l.capacities)
