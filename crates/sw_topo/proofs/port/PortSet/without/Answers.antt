use Rattle.std.proofs.Common.{rules, ◌<◌, ◌^◌}
use Rattle.sw_topo.proofs.PortBits.{clear_other}
use Rattle.sw_topo.proofs.port.PortSet.without.Goals as goal

pub returns-clause-others : goal.returns-clause-others
returns-clause-others c =
    let small : c.self.inside.bits < 2 ^ 32 = search rules in
    rw (← c.self.view_is, ← c.port.view_is) (λ p. clear_other c.self.inside.bits c.port.inside.number p small c.port.invariant)
