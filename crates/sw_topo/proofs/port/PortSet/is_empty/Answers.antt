use Rattle.std.proofs.Common.{eq-eqb}
use Rattle.std.proofs.lemmas.Bool.{eqb-true}
use Rattle.sw_topo.proofs.PortBits.{zero_none, none_zero}
use Rattle.sw_topo.proofs.port.PortSet.is_empty.Goals as goal

pub returns-clause-none : goal.returns-clause-none
returns-clause-none c = rw (← c.self.view_is) (
  λ empty. zero_none c.self.inside.bits (eqb-true _ 0 empty),
  λ none. eq-eqb c.self.inside.bits 0 (none_zero c.self.inside.bits none),
)
