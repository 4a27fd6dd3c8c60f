use Rattle.std.proofs.Common.{◌≡◌, ℕ, ◌<◌, true}
use Rattle.sw_graph.specs.Rounds.{is_marked}
use Rattle.sw_graph.proofs.cycle.first_left.Given as goal

abbrev pub invariant-loop-c : goal.invariant-loop-c
invariant-loop-c l = (d : ℕ) → d < l.c → is_marked l.done d ≡ true
