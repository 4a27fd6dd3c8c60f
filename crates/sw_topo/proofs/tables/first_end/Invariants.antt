use Rattle.std.proofs.Common.{◌≡◌, false, take}
use Rattle.std.specs.List.{list_any}
use Rattle.sw_topo.specs.Wiring.{is_node}
use Rattle.sw_topo.proofs.tables.first_end.Given as goal

abbrev pub invariant-loop-number : goal.invariant-loop-number
invariant-loop-number l = list_any (is_node l.node) (take l.number l.ends) ≡ false
