use Rattle.std.proofs.Common.{◌∙◌, ap, length, rules}
use Rattle.std.proofs.lemmas.List.{length-map}
use Rattle.sw_switch.proofs.Waiting.{none_waits}
use Rattle.sw_switch.specs.Cell.{new_end}
use Rattle.sw_switch.proofs.cell.SwitchCell.new.Goals as goal

pub invariant_of-result : goal.invariant_of-result
invariant_of-result g c = (
  record {
    all_credits = ap length c.in_ok-credits.ensures.0;
    all_inputs = search rules;
    all_received = ap length c.in_ok-credits.ensures.2 ∙ length-map c.args.capacities.now new_end ∙ c.requires.ports;
    all_arbiters = search rules;
    arbiter_ports = c.requires.arbiter_ports;
  },
  none_waits 0 _ _ c.args.capacities.now c.in_ok-credits.ensures.2,
)
