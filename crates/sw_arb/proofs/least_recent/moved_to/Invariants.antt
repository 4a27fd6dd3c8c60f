use Rattle.std.proofs.Common.{◌≡◌, ℕ, ◌-◌, ◌<◌, ◌≤◌, get_or, nat_lt, if◌then◌else◌}
use Rattle.sw_arb.proofs.least_recent.moved_to.Given as goal

abbrev pub invariant-loop-other : goal.invariant-loop-other
invariant-loop-other l = record {
  done : (port : ℕ) → port < l.other-index → get_or l.other-items port 0 ≡ (if nat_lt l.left (get_or l.fn.ranks port 0) then get_or l.fn.ranks port 0 - 1 else get_or l.fn.ranks port 0);
  rest : (port : ℕ) → l.other-index ≤ port → get_or l.other-items port 0 ≡ get_or l.fn.ranks port 0;
}
