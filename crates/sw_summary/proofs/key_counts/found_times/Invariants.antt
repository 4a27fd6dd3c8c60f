use Rattle.std.proofs.Common.{◌≡◌, ◌≤◌}
use Rattle.std.specs.Prelude.{replicate}
use Rattle.sw_summary.specs.KeyCounts.{IsRising, found, taken_all}
use Rattle.sw_summary.proofs.key_counts.found_times.Given as goal

abbrev pub invariant-loop-turn : goal.invariant-loop-turn
invariant-loop-turn l = record {
  count : l.count ≡ found l.initial.key_counts (replicate l._turn l.key);
  rest : l.key_counts ≡ taken_all l.initial.key_counts (replicate l._turn l.key);
  few : l.count ≤ l._turn;
  rising : IsRising l.key_counts;
}
