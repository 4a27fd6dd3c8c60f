use Rattle.std.proofs.Common.{◌≡◌, [], length, ap, arith}
use Rattle.sw_config.specs.Ports.{ports_of}
use Rattle.sw_config.proofs.PortBits.{zero_none}
use Rattle.sw_config.proofs.PortWalk.{ports_none}
use Rattle.sw_flow.proofs.walk.no_followers.Goals as goal

pub invariant_of-result : goal.invariant_of-result
invariant_of-result c =
    let none : ports_of c.ports.result ≡ [] = ports_none c.ports.result (zero_none c.ports.result c.ports.ensures.all) in
    λ some. absurd (omega (arith, some, ap length none))

pub returns : goal.returns
returns c =
    let none : ports_of c.ports.result ≡ [] = ports_none c.ports.result (zero_none c.ports.result c.ports.ensures.all) in
    rw none
