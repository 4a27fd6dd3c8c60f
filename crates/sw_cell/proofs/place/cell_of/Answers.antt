use Rattle.std.proofs.Common.{ap, subst, sym, ◌≡◌}
use Rattle.sw_cell.specs.Places.{HasNamed, IsUndeclared, machine_cell}
use Rattle.sw_cell.specs.declared.cell.CellId.TheVariants.{Node}
use Rattle.sw_machine.proofs.Declares.{declared_are_declared}
use Rattle.sw_machine.specs.Network.{AtNode, IsDeclared}
use Rattle.sw_machine.specs.Parts.{cell_of}
use Rattle.sw_machine.specs.Model.{network_of}
use Rattle.sw_machine.specs.StepValues.{machine_step}
use Rattle.sw_cell.proofs.place.cell_of.Goals as goal

pub returns-in-Some : goal.returns-in-Some
returns-in-Some c =
    let d = c.args.network.now in
    let net = network_of d in
    let is = ap machine_step c.in-Begin.is in
    let at = c.in-Some.ensures.declared in
    let packet = (declared_are_declared d c.in-Begin.flow c.deref.result.now).0 at.packet in
    record {
      named = subst (HasNamed net) (sym is) (subst (IsDeclared net c.in-Begin.flow) c.deref.ensures.value packet);
      cell = subst (λ k. cell_of net k ≡ machine_cell (Node c.in-Some.n)) (sym is) (ap AtNode at.from);
      inside = c.in-Some.ensures.within;
    }

pub returns-in-None : goal.returns-in-None
returns-in-None c =
    let d = c.args.network.now in
    let net = network_of d in
    let is = ap machine_step c.in-Begin.is in
    let same = declared_are_declared d c.in-Begin.flow c.deref.result.now in
    subst (IsUndeclared net) (sym is) (λ packet. c.in-None.ensures.undeclared (same.1 (subst (IsDeclared net c.in-Begin.flow) (sym c.deref.ensures.value) packet)))
