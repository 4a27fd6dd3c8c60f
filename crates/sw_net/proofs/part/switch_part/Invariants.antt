use Rattle.std.proofs.Common.{◌≡◌, ◌++◌, map}
use Rattle.sw_net.proofs.part.switch_part.Given as goal
use Rattle.sw_net.specs.Kept.{kept_at_port}
use Rattle.sw_topo.specs.Ports.{ports_of}

abbrev pub invariant-loop-port : goal.invariant-loop-port
invariant-loop-port g l = l.parts.items ++ map (kept_at_port l.switch) (ports_of l.port-iterator) ≡ l.initial.parts.items ++ map (kept_at_port l.switch) (ports_of l.initial.port-iterator)
