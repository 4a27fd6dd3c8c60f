use Rattle.std.proofs.Common.{◌<◌, ℕ, subst}
use Rattle.sw_search.proofs.Faulty.{all_looked_at, misrouted_here}
use Rattle.sw_search.proofs.misrouted_way.first_misrouted.Goals as goal

pub fault_of_flow-requires-clause-inside : goal.fault_of_flow-requires-clause-inside
fault_of_flow-requires-clause-inside c = subst (λ (n : ℕ). c.loop-flow.flow < n) c.flows-flow-end.ensures.count c.loop-flow-test.true

pub returns-in-Some : goal.returns-in-Some
returns-in-Some c = misrouted_here c.args.network.now c.loop-flow.flow c.fault_of_flow.result _ c.in-Some.is c.loop-flow.invariant c.fault_of_flow.ensures

pub returns : goal.returns
returns c = all_looked_at c.args.network.now c.loop-flow.flow c.flows-flow-end.result c.flows-flow-end.ensures.count c.loop-flow-test.false c.loop-flow.invariant
