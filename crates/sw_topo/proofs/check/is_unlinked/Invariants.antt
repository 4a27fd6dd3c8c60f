use Rattle.std.proofs.Common.{◌≡◌, false, take}
use Rattle.std.specs.List.{list_any}
use Rattle.sw_topo.specs.Wiring.{is_at_switch}
use Rattle.sw_topo.proofs.check.is_unlinked.Given as goal

abbrev pub invariant-loop-end : goal.invariant-loop-end
invariant-loop-end l = list_any (is_at_switch l.switch) (take l.end-index l.ends) ≡ false
