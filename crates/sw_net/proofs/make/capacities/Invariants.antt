use Rattle.std.proofs.Common.{All, length, ℕ, ◌≡◌, Some}
use Rattle.std.specs.Prelude.{slice_get}
use Rattle.sw_link.specs.Ends.{IsCapacity}
use Rattle.sw_net.specs.New.{port_capacity}
use Rattle.sw_net.proofs.make.capacities.Given as goal

abbrev pub invariant-loop-number : goal.invariant-loop-number
invariant-loop-number l = (length l.all.items ≡ l.number) × All IsCapacity l.all.items × ((port capacity : ℕ) → slice_get l.all.items port ≡ Some capacity → capacity ≡ port_capacity l.network l.w port)
