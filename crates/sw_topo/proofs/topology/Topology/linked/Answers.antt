use Rattle.std.proofs.Common.{arith}
use Rattle.sw_topo.proofs.Ends.{port_within}
use Rattle.sw_topo.proofs.topology.Topology.linked.Goals as goal

pub returns : goal.returns
returns c = λ p. (
  λ set. ((c.loop-number.invariant p).0 set).1,
  λ some. (c.loop-number.invariant p).1 (let within = port_within c.args.self.now c.switches-switches.ensures.sound.wiring c.args.switch p some in omega arith, some),
)
