use Rattle.sw_topo.proofs.Ends.{port_starts, port_found}
use Rattle.sw_route.proofs.laws.outputs_are_the_named_channels.Goals as goal

pub returns : goal.returns
returns c = λ w sound s look d. (
  λ names. (names.port, names.is_port, names.named, port_starts w s names.port d names.linked),
  λ at. record { port = at.0; is_port = at.1; named = at.2; linked = port_found w sound s at.0 d at.3 },
)
