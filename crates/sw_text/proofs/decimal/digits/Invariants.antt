use Rattle.std.proofs.Common.{◌≡◌, ◌≤◌, drop}
use Rattle.sw_text.specs.Number.{goes_on}
use Rattle.sw_text.proofs.decimal.digits.Given as goal

abbrev pub invariant-loop-c : goal.invariant-loop-c
invariant-loop-c l = record { same : goes_on l.limit l.value (drop l.c-index l.bytes) ≡ goes_on l.limit 0 l.bytes; low : l.value ≤ l.limit }
