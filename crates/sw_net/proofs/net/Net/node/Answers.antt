use Rattle.std.proofs.Common.{arith}
use Rattle.sw_net.proofs.Steps.{node_read, node_within}
use Rattle.sw_net.proofs.net.Net.node.Goals as goal
use Rattle.sw_net.specs.Net.{net_of}

pub index-requires : goal.index-requires
index-requires g c = let within = node_within g.R.Routing.answer g.A.Arbiter.ports (net_of c.self.inside.network.now c.self.inside.nodes.items c.self.inside.switches.items c.self.inside.wires) c.args.self.now c.self.view_is c.self.invariant c.args.n c.requires in omega (arith, c.self.inside.nodes.ok.0)

pub returns : goal.returns
returns g c = node_read g.R.Routing.answer g.A.Arbiter.ports (net_of c.self.inside.network.now c.self.inside.nodes.items c.self.inside.switches.items c.self.inside.wires) c.args.self.now c.self.view_is c.self.invariant c.args.n c.index.result.now c.requires c.index.ensures
