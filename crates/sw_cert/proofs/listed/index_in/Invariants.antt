use Rattle.std.proofs.Common.{◌-◌}
use Rattle.sw_cert.proofs.Ranks.{IsBetween}
use Rattle.sw_cert.proofs.listed.index_in.Given as goal

abbrev pub invariant-loop-low : goal.invariant-loop-low
invariant-loop-low l = IsBetween l.listed l.place l.low l.high

abbrev pub decreases-loop-low : goal.decreases-loop-low
decreases-loop-low l = l.high - l.low
