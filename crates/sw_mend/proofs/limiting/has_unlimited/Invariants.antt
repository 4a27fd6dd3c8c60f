use Rattle.std.proofs.Common.{◌≡◌, false, take}
use Rattle.std.specs.List.{list_any}
use Rattle.sw_mend.specs.Limitings.{is_unlimited}
use Rattle.sw_mend.proofs.limiting.has_unlimited.Given as goal

abbrev pub invariant-loop-flow : goal.invariant-loop-flow
invariant-loop-flow l = list_any (is_unlimited l.network.nodes) (take l.flow l.network.flows) ≡ false
