use Rattle.sw_machine.proofs.laws.accepted_answers_once.Goals as goal
use Rattle.sw_machine.proofs.Free.{is_deadlock_free_within_limits, no_more_replies}

pub returns : goal.returns
returns c = record {
  asked = λ net cert ok acc. (is_deadlock_free_within_limits net cert ok acc).replies_are_asked;
  begun = no_more_replies;
  all = λ net cert ok acc. (is_deadlock_free_within_limits net cert ok acc).all_is_answered;
  owed = λ net cert ok acc. (is_deadlock_free_within_limits net cert ok acc).only_asked_owe;
}
