use Rattle.std.proofs.Common.{◌≡◌, false, take}
use Rattle.std.specs.List.{list_any}
use Rattle.sw_topo.specs.Wiring.{is_same_port}
use Rattle.sw_topo.proofs.check.is_port_taken.Given as goal

abbrev pub invariant-loop-earlier : goal.invariant-loop-earlier
invariant-loop-earlier l = list_any (is_same_port l.end) (take l.earlier-index (take l.at l.ends)) ≡ false
