use Rattle.std.proofs.Common.{false, ℕ, ◌<◌}
use Rattle.sw_net.specs.Asked.{CanStep}
use Rattle.sw_net.proofs.net.Net.first_enabled.Given as goal

abbrev pub invariant-loop-number : goal.invariant-loop-number
invariant-loop-number g l = (k : ℕ) → k < l.number → CanStep l.self k false
