use Rattle.std.proofs.Common.{◌≡◌, take}
use Rattle.sw_topo.specs.Ports.{port_set}
use Rattle.sw_file.proofs.switches.ports_at.Given as goal

abbrev pub invariant-loop-number : goal.invariant-loop-number
invariant-loop-number l = l.ports ≡ port_set (take l.number-index l.number-items)
