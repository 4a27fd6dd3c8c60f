use Rattle.std.proofs.Common.{length, arith, ap}
use Rattle.sw_route.specs.Wiring.{Wiring}
use Rattle.sw_config.proofs.Steps.{length-link_ends}
use Rattle.sw_config.proofs.network.Network.channels.Goals as goal

pub returns-clause-count : goal.returns-clause-count
returns-clause-count c =
    rw (← c.self.view_is) (omega (arith, c.channels.ensures.channels, ap (λ (w : Wiring). length w.ends) c.self.invariant.wired, length-link_ends c.self.inside.links.items))
