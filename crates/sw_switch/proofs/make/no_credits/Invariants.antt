use Rattle.std.proofs.Common.{◌≡◌, replicate}
use Rattle.sw_switch.proofs.make.no_credits.Given as goal

abbrev pub invariant-loop : goal.invariant-loop
invariant-loop l = l.ends.items ≡ replicate l.counter 0
