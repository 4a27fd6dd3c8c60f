use Rattle.std.proofs.Common.{◌≡◌, ◌≤◌, drop}
use Rattle.sw_app_rmap.specs.Words.{goes_on}
use Rattle.sw_app_rmap.proofs.words.digits_of.Given as goal

abbrev pub invariant-loop-c : goal.invariant-loop-c
invariant-loop-c l = record { same : goes_on l.base l.limit l.value (drop l.c-index l.digits) ≡ goes_on l.base l.limit 0 l.digits; low : l.value ≤ l.limit }
