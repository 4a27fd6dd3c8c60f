use Rattle.std.proofs.Common.{◌≡◌, ◌≤◌, drop}
use Rattle.sw_load.specs.Cargo.{count_after, count_of}
use Rattle.sw_load.proofs.cargo.count_of.Given as goal

abbrev pub invariant-loop-c : goal.invariant-loop-c
invariant-loop-c l = record { same : count_after l.value (drop l.c-index l.text) ≡ count_of l.text; low : l.value ≤ 4096 }
