use Rattle.sw_machine.proofs.laws.limits_are_kept.Goals as goal
use Rattle.sw_machine.proofs.Limits.{all_are_kept, kept_after_each_step, nothing_is_unanswered, only_beginnings_raise}

pub returns : goal.returns
returns c = record {
  without_limits = all_are_kept;
  throughout = λ net ok. kept_after_each_step net ok;
  raised = λ net ok. only_beginnings_raise net ok;
  answered = λ net cert ok acc. nothing_is_unanswered net cert ok acc;
}
