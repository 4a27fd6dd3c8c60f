use Rattle.std.proofs.Common.{subst, sym}
use Rattle.sw_cell.specs.declared.cell.CellId.{CellId}
use Rattle.sw_net.proofs.New.{if_ok}
use Rattle.sw_net.proofs.Parts.{node_part_is, switch_part_is}
use Rattle.sw_net.proofs.net.Net.part.Goals as goal
use Rattle.sw_net.specs.Parts.{IsPartOf}

pub returns-in-Node : goal.returns-in-Node
returns-in-Node g c =
    let v = c.args.self.now in
    if_ok c.node_part.result
    (λ part is s k. subst (λ (cell : CellId). IsPartOf v.declared s cell part) (sym c.in-Node.is) (node_part_is v s k c.in-Node.n c.node.result.now part c.node.ensures is))
    c.node_part.ensures

pub returns-in-Switch : goal.returns-in-Switch
returns-in-Switch g c =
    let v = c.args.self.now in
    let w = c.in-Switch.w in
    let cell = c.switch.result.now in
    let for = c.network-network.ensures.sound.switches w cell c.switch.ensures in
    if_ok c.switch_part.result
    (λ part is s k. subst (λ (cell : CellId). IsPartOf v.declared s cell part) (sym c.in-Switch.is) (switch_part_is v s k g.R.Routing.answer g.A.Arbiter.ports w cell c.switch.ensures for part is))
    c.switch_part.ensures
