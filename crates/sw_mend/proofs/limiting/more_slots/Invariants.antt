use Rattle.std.proofs.Common.{◌≡◌, All, take}
use Rattle.sw_mend.specs.Changes.{by_number}
use Rattle.sw_mend.specs.Limitings.{IsSlots, slots_at}
use Rattle.sw_mend.proofs.limiting.more_slots.Given as goal

abbrev pub invariant-loop-node : goal.invariant-loop-node
invariant-loop-node l = (l.slots.items ≡ by_number (slots_at l.network) 0 (take l.node l.network.nodes)) × All IsSlots l.slots.items
