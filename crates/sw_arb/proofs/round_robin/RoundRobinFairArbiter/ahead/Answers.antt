use Rattle.std.proofs.Common.{arith}
use Rattle.sw_arb.specs.PortCounts.{ports_below-all, ports_below-rises}
use Rattle.sw_arb.proofs.round_robin.RoundRobinFairArbiter.ahead.Goals as goal

pub overflow_sub-result : goal.overflow_sub-result
overflow_sub-result c = omega (arith, ports_below-all c.args.self.now.ports c.args.self.now.from)

pub overflow_sub-result-else-number-self : goal.overflow_sub-result-else-number-self
overflow_sub-result-else-number-self c = omega (arith, ports_below-rises c.args.self.now.ports c.args.self.now.from c.number.result)
