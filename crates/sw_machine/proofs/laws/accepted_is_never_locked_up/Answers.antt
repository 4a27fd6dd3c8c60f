use Rattle.sw_machine.proofs.laws.accepted_is_never_locked_up.Goals as goal
use Rattle.sw_machine.proofs.Free.{is_deadlock_free, is_deadlock_free_within_limits}

pub returns : goal.returns
returns c = record {
  goes_on_within_limits = λ net cert ok acc. (is_deadlock_free_within_limits net cert ok acc).always_goes_on;
  never_within_limits = λ net cert ok acc. (is_deadlock_free_within_limits net cert ok acc).never_locked_up;
  quiet_within_limits = λ net cert ok acc. (is_deadlock_free_within_limits net cert ok acc).quiet_is_empty;
  goes_on = λ net cert ok free acc. (is_deadlock_free net cert ok acc free).always_goes_on;
  never = λ net cert ok free acc. (is_deadlock_free net cert ok acc free).never_locked_up;
  quiet = λ net cert ok free acc. (is_deadlock_free net cert ok acc free).quiet_is_empty;
}
