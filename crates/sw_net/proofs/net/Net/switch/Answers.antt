use Rattle.std.proofs.Common.{arith}
use Rattle.sw_net.proofs.Steps.{switch_read, switch_within}
use Rattle.sw_net.proofs.net.Net.switch.Goals as goal
use Rattle.sw_net.specs.Net.{net_of}

pub index-requires : goal.index-requires
index-requires g c = let within = switch_within g.R.Routing.answer g.A.Arbiter.ports (net_of c.self.inside.network.now c.self.inside.nodes.items c.self.inside.switches.items c.self.inside.wires) c.args.self.now c.self.view_is c.self.invariant c.args.w c.requires in omega (arith, c.self.inside.switches.ok.0)

pub returns : goal.returns
returns g c = switch_read g.R.Routing.answer g.A.Arbiter.ports (net_of c.self.inside.network.now c.self.inside.nodes.items c.self.inside.switches.items c.self.inside.wires) c.args.self.now c.self.view_is c.self.invariant c.args.w c.index.result.now c.requires c.index.ensures
