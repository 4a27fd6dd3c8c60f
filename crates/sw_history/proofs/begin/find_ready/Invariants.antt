use Rattle.std.proofs.Common.{Some, false, ℕ, ◌<◌, ◌≡◌}
use Rattle.std.specs.Prelude.{slice_get}
use Rattle.sw_history.proofs.begin.find_ready.Given as goal
use Rattle.sw_history.specs.Way.{IsReady}

abbrev pub invariant-loop-node : goal.invariant-loop-node
invariant-loop-node g l = (n : ℕ) → n < l.node → (k : ℕ) → slice_get l.begun n ≡ Some k → IsReady l.senders.load l.net l.unanswered n k false
