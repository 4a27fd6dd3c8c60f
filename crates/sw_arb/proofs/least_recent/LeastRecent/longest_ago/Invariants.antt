use Rattle.std.proofs.Common.{ℕ, ◌<◌, ◌≤◌, get_or, IsBitSet}
use Rattle.sw_arb.proofs.least_recent.LeastRecent.longest_ago.Given as goal

abbrev pub invariant-loop-number : goal.invariant-loop-number
invariant-loop-number l = record {
  is_port : l.longest < 32;
  asks : IsBitSet l.asking l.longest;
  least : (port : ℕ) → port < l.number → IsBitSet l.asking port → get_or l.self.ranks l.longest 0 ≤ get_or l.self.ranks port 0;
}
