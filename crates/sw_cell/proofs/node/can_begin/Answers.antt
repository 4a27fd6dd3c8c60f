use Rattle.sw_cell.proofs.Network.{in_network}
use Rattle.sw_cell.proofs.Telling as telling
use Rattle.sw_cell.proofs.node.can_begin.Goals as goal
use Rattle.sw_machine.proofs.Declares.{declared_are_declared}
use Rattle.sw_machine.specs.Model.{network_of}

pub returns : goal.returns
returns c = λ d for flow cargo end b at.
    let declared = (declared_are_declared d flow cargo).0 at.packet in
    telling.begin (network_of d) c.args.n (in_network d c.args.n c.args.node.now for) c.args.node.now b c.can_begin.result flow cargo end declared at.from c.can_begin.ensures
