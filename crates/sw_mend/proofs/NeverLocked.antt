-- The networks that are told of never lock up.
use Rattle.std.proofs.Common.{List, [], ◌∷◌}
use Rattle.sw_config.specs.Entries.{Declaration}
use Rattle.sw_search.specs.Laws.{RoutedAndFree}
use Rattle.sw_search.proofs.Rising.{free_never_locks_up}
use Rattle.sw_mend.specs.Changes.{changed_by_all}
use Rattle.sw_mend.specs.Laws.{MendsNeverLockUp, PairMendsNeverLockUp, UnitMendsNeverLockUp}
use Rattle.sw_mend.specs.Limitings.{limited_by}
use Rattle.sw_mend.specs.LimitingLaws.{LimitingsNeverLockUp}
use Rattle.sw_mend.specs.Mends.{Frees, left_by}
use Rattle.sw_mend.specs.declared.change.Change.{Change}
use Rattle.sw_mend.specs.declared.change.Trial.{Trial}
use Rattle.sw_mend.specs.declared.change.Trial.TheVariants.{Without, Split}
use Rattle.sw_mend.proofs.Determined.{mends_are_those_that_free, mends_keep_valid, pairs_are_those_that_free, unit_mends_are_those_that_free, unit_mends_keep_valid}
use Rattle.sw_mend.proofs.FirstLimits.{limitings_free}
use Rattle.sw_mend.proofs.Kept.{all_keep_valid}
use Rattle.sw_mend.proofs.LimitedValid.{limitings_keep_valid}

freed : (d : Declaration) (change : Trial) → Frees d change → RoutedAndFree (left_by d change)
freed d (Without change) frees = frees
freed d (Split link) frees = frees.1

pub mends_never_lock_up : MendsNeverLockUp
mends_never_lock_up d told change valid are here =
    free_never_locks_up (left_by d change) (mends_keep_valid d told change valid are here) (freed d change ((mends_are_those_that_free d told change are).0 here).1)

pub unit_mends_never_lock_up : UnitMendsNeverLockUp
unit_mends_never_lock_up d told change valid are here =
    free_never_locks_up (left_by d change) (unit_mends_keep_valid d told change valid are here) (freed d change ((unit_mends_are_those_that_free d told change are).0 here).1)

pub pair_mends_never_lock_up : PairMendsNeverLockUp
pair_mends_never_lock_up d told pair valid are here =
    let both : List Change = pair.first ∷ pair.second ∷ [] in
    let frees = ((pairs_are_those_that_free d told pair are).0 here).1 in
    free_never_locks_up (changed_by_all d both) (all_keep_valid d both valid) frees.2

pub limitings_never_lock_up : LimitingsNeverLockUp
limitings_never_lock_up d told valid is = free_never_locks_up (limited_by d told) (limitings_keep_valid d told valid is) (limitings_free d told is).1
