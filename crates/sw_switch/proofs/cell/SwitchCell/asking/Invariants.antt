use Rattle.std.proofs.Common.{◌≤◌, ◌-◌}
use Rattle.sw_switch.specs.Conditions.{Asks}
use Rattle.sw_switch.proofs.Asking.{IsGathered}
use Rattle.sw_switch.proofs.cell.SwitchCell.asking.Given as goal

abbrev pub invariant-loop-input : goal.invariant-loop-input
invariant-loop-input g l = record { within : l.from ≤ 32; gathered : IsGathered (Asks g.R.Routing.answer l.self l.out) l.asking l.from }

abbrev pub decreases-loop-input : goal.decreases-loop-input
decreases-loop-input g l = 32 - l.from
