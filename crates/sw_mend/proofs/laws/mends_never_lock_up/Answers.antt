use Rattle.sw_mend.proofs.NeverLocked.{limitings_never_lock_up, mends_never_lock_up, pair_mends_never_lock_up, unit_mends_never_lock_up}
use Rattle.sw_mend.proofs.laws.mends_never_lock_up.Goals as goal

pub returns : goal.returns
returns c = record {
  parts = mends_never_lock_up;
  units = unit_mends_never_lock_up;
  pairs = pair_mends_never_lock_up;
  limits = limitings_never_lock_up;
}
