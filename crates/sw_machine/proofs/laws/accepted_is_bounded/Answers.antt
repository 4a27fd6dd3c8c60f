use Rattle.sw_machine.proofs.laws.accepted_is_bounded.Goals as goal
use Rattle.sw_machine.proofs.Free.{is_deadlock_free, is_deadlock_free_within_limits}

pub returns : goal.returns
returns c = record {
  bounded = λ net cert ok acc. (is_deadlock_free_within_limits net cert ok acc).bounded;
  by_load = λ net cert ok acc. (is_deadlock_free_within_limits net cert ok acc).bounded_by_load;
  ends = λ net cert ok acc. (is_deadlock_free_within_limits net cert ok acc).ends_empty;
  without_limits = λ net cert ok free acc. (is_deadlock_free net cert ok acc free).ends_empty;
}
