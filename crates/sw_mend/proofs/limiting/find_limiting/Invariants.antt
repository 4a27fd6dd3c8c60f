use Rattle.std.proofs.Common.{◌-◌, Option}
use Rattle.sw_mend.specs.Limitings.{FreesLimited, IsFirst, Limiting, limits_from}
use Rattle.sw_mend.proofs.limiting.find_limiting.Given as goal

abbrev pub invariant-loop-less : goal.invariant-loop-less
invariant-loop-less g l =
    (found : Option Limiting) → IsFirst (FreesLimited l.network) (limits_from l.network (8 - l.less)) found → IsFirst (FreesLimited l.network) (limits_from l.network 8) found
