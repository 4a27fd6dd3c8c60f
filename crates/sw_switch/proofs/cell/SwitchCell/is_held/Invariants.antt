use Rattle.std.proofs.Common.{◌≡◌, false, take}
use Rattle.std.specs.List.{list_any}
use Rattle.sw_switch.specs.Conditions.{holds}
use Rattle.sw_switch.proofs.cell.SwitchCell.is_held.Given as goal

abbrev pub invariant-loop-input : goal.invariant-loop-input
invariant-loop-input g l = list_any (holds l.out) (take l.input-index l.self.inputs) ≡ false
