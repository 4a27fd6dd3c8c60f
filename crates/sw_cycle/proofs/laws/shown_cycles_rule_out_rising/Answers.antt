use Rattle.sw_machine.specs.Model.{network_of}
use Rattle.sw_cycle.proofs.Shown.{shown_are_cycles}
use Rattle.sw_cycle.proofs.laws.shown_cycles_rule_out_rising.Goals as goal

pub returns : goal.returns
returns c d valid cycle shown number rising = c.rising_has_no_cycle.ensures (network_of d) number rising cycle.channels (shown_are_cycles d valid cycle shown)
