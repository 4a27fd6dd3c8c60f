use Rattle.std.proofs.Common.{arith}
use Rattle.sw_arb.proofs.PassedOver.{passed_over_ahead}
use Rattle.sw_arb.proofs.laws.passed_over_fewer_times_than_ports.Goals as goal

pub returns : goal.returns
returns g c a b picks port made is_port has_port asks =
    let laws = g.met.A.FairArbiter in
    omega (arith, laws.below a port is_port has_port, passed_over_ahead g.A.Arbiter.ports g.A.Arbiter.policy g.A.FairArbiter.ahead_of laws.falls a b picks port made is_port asks)
