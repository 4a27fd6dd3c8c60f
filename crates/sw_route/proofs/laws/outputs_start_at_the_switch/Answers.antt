use Rattle.sw_topo.specs.Wiring.{Wiring}
use Rattle.sw_topo.proofs.Ends.{port_starts}
use Rattle.sw_route.proofs.laws.outputs_start_at_the_switch.Goals as goal

pub returns : goal.returns
returns c = λ ends s look d names.
    let w : Wiring = record { nodes = 0; switches = 0; ends = ends } in
    (names.port, names.named, port_starts w s names.port d names.linked)
