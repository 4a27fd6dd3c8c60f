use Rattle.std.proofs.Common.{◌≡◌, take}
use Rattle.sw_summary.specs.KeyCounts.{key_counts}
use Rattle.sw_summary.proofs.key_counts.key_counts.Given as goal

abbrev pub invariant-loop-key : goal.invariant-loop-key
invariant-loop-key l = l.all.items ≡ key_counts (take l.key-index l.keys)
