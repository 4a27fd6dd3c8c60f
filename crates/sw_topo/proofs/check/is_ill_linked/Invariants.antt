use Rattle.std.proofs.Common.{◌≡◌, ◌≤◌, take, count_by}
use Rattle.sw_topo.specs.Wiring.{is_node}
use Rattle.sw_topo.proofs.check.is_ill_linked.Given as goal

abbrev pub invariant-loop-end : goal.invariant-loop-end
invariant-loop-end l = record { count : l.linked ≡ count_by (is_node l.node) (take l.end-index l.ends); few : l.linked ≤ l.end-index }
