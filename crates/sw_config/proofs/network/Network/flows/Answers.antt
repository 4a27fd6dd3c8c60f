use Rattle.std.proofs.Common.{arith}
use Rattle.sw_config.proofs.Flows.{few_replies_in}
use Rattle.sw_config.proofs.network.Network.flows.Goals as goal

pub overflow_add-result : goal.overflow_add-result
overflow_add-result c =
    omega (arith, c.self.invariant.valid.few_flows, few_replies_in c.self.invariant)

pub overflow_cast-result : goal.overflow_cast-result
overflow_cast-result c =
    omega (arith, c.self.invariant.valid.few_flows, few_replies_in c.self.invariant)

pub returns-clause-few : goal.returns-clause-few
returns-clause-few c =
    omega (arith, c.self.invariant.valid.few_flows, few_replies_in c.self.invariant)
