use Rattle.std.proofs.Common.{Some, ap, arith, length, subst, sym, ◌∙◌, ◌≡◌}
use Rattle.std.specs.Prelude.{slice_get}
use Rattle.sw_cell.specs.Places.{machine_cell}
use Rattle.sw_journal.proofs.Opened.{is_same, starts_there}
use Rattle.sw_journal.proofs.opening.stands_at.Goals as goal
use Rattle.sw_journal.specs.Cells.{same_cell}
use Rattle.sw_machine.specs.Network.{AtNode, AtSwitch, Cell}
use Rattle.sw_config.proofs.Steps.{length-link_ends}
use Rattle.sw_topo.specs.Wiring.{Wiring}
use Rattle.sw_topo.specs.declared.place.PlaceEnd.TheVariants.{Node, Switch}

pub start_of-requires : goal.start_of-requires
start_of-requires c =
    let w = ap (λ (k : Wiring). length k.ends) c.topology.ensures.wiring in
    let size = length-link_ends c.args.network.now.links in
    let s = c.sends.ensures in
    let r = c.requires in
    omega arith

pub returns-in-Node : goal.returns-in-Node
returns-in-Node c =
    let at = subst (λ k. slice_get c.topology.result.now.ends k ≡ Some (Node c.in-Node.n)) c.sends.ensures c.in-Node.ensures.place in
    let starts = starts_there c.args.network.now c.topology.result.now c.args.end (Node c.in-Node.n) c.topology.ensures.wiring at in
    is_same c.is.result (machine_cell c.args.id) (AtNode c.in-Node.n) c.is.ensures ∙ ap (λ (k : Cell). same_cell k (machine_cell c.args.id)) (sym starts)

pub returns-in-Switch : goal.returns-in-Switch
returns-in-Switch c =
    let at = subst (λ k. slice_get c.topology.result.now.ends k ≡ Some (Switch c.in-Switch.w c.in-Switch.field-1)) c.sends.ensures c.in-Switch.ensures.place in
    let starts = starts_there c.args.network.now c.topology.result.now c.args.end (Switch c.in-Switch.w c.in-Switch.field-1) c.topology.ensures.wiring at in
    is_same c.is-in-Switch.result (machine_cell c.args.id) (AtSwitch c.in-Switch.w) c.is-in-Switch.ensures ∙ ap (λ (k : Cell). same_cell k (machine_cell c.args.id)) (sym starts)
