use Rattle.std.proofs.Common.{◌≡◌, ◌∙◌, None, Some, ap, subst}
use Rattle.std.specs.Prelude.{Err}
use Rattle.sw_topo.specs.Checked.{fault_of}
use Rattle.sw_topo.specs.declared.fault.TopoError.{TopoError}
use Rattle.sw_config.specs.Building.{Wires}
use Rattle.sw_config.specs.Entries.{Declaration, wiring_of}
use Rattle.sw_mend.proofs.MoreSlots.{same_wiring}
use Rattle.sw_mend.proofs.limiting.with_slots.Goals as goal

pub unreachable-requires : goal.unreachable-requires
unreachable-requires c =
    let said : fault_of (wiring_of c.add_parts_with.new.builder) ≡ Some c.in-Err-Fault.field-0-0 =
    subst (λ (e : TopoError). Wires (Err e) c.add_parts_with.new.builder) c.in-Err-Fault.field-0-is c.in-Err-Fault.ensures in
    let none : fault_of (wiring_of c.add_parts_with.new.builder) ≡ None =
    ap (λ (d : Declaration). fault_of (wiring_of d)) c.in-Ok.ensures
    ∙ (ap fault_of (same_wiring c.args.slots.now c.args.network.now) ∙ c.topology-topology.ensures.valid.sound.faultless) in
    cc (said, none)
