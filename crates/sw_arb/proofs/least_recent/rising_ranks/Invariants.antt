use Rattle.std.proofs.Common.{◌≡◌, ℕ, ◌<◌, get_or, length}
use Rattle.sw_arb.specs.PortCounts.{ports_below}
use Rattle.sw_arb.proofs.least_recent.rising_ranks.Given as goal

abbrev pub invariant-loop-number : goal.invariant-loop-number
invariant-loop-number l = record {
  whole : length l.ranks ≡ 32;
  ranked : (port : ℕ) → port < l.number → get_or l.ranks port 0 ≡ ports_below l.ports port;
}
