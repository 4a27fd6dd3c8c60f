use Rattle.sw_mend.proofs.KeptWays.{kept_are_shown, kept_rule_out_free, spared_rule_out_frees}
use Rattle.sw_mend.proofs.cycle_laws.kept_cycles_rule_out_free.Goals as goal

pub returns : goal.returns
returns c = record {
  shown = kept_are_shown;
  never = kept_rule_out_free;
  changes = spared_rule_out_frees;
}
