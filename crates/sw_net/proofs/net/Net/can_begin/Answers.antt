use Rattle.sw_net.proofs.Possibles.{begin_told}
use Rattle.sw_net.proofs.net.Net.can_begin.Goals as goal

pub returns : goal.returns
returns g c =
    let v = c.args.self.now in
    begin_told v c.args.node c.node.result.now c.can_begin.result c.node.ensures (c.can_begin.ensures v.declared (c.network-network.ensures.sound.nodes c.args.node c.node.result.now c.node.ensures))
