use Rattle.sw_machine.proofs.laws.accepted_comes_out_whole.Goals as goal
use Rattle.sw_machine.proofs.Free.{is_deadlock_free_within_limits}

pub returns : goal.returns
returns c = record {
  dropped = λ net cert ok acc. (is_deadlock_free_within_limits net cert ok acc).nothing_is_dropped;
  counted = λ net cert ok acc. (is_deadlock_free_within_limits net cert ok acc).each_run_is_counted;
  whole = λ net cert ok acc. (is_deadlock_free_within_limits net cert ok acc).comes_out_whole;
  all = λ net cert ok acc. (is_deadlock_free_within_limits net cert ok acc).all_comes_out;
}
