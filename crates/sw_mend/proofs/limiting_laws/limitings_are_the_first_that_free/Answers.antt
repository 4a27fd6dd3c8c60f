use Rattle.sw_mend.proofs.FirstLimits.{greater_limits_do_not_free, limitings_are_determined, limitings_free, slots_are_for_want}
use Rattle.sw_mend.proofs.LimitedValid.{limitings_keep_valid}
use Rattle.sw_mend.proofs.WantedSlots.{with_slots_none_waits}
use Rattle.sw_mend.proofs.limiting_laws.limitings_are_the_first_that_free.Goals as goal

pub returns-clause-free : goal.returns-clause-free
returns-clause-free c = limitings_free

pub returns-clause-greatest : goal.returns-clause-greatest
returns-clause-greatest c = greater_limits_do_not_free

pub returns-clause-slots : goal.returns-clause-slots
returns-clause-slots c = slots_are_for_want

pub returns-clause-none_waits : goal.returns-clause-none_waits
returns-clause-none_waits c = with_slots_none_waits

pub returns-clause-determined : goal.returns-clause-determined
returns-clause-determined c = limitings_are_determined

pub returns-clause-valid : goal.returns-clause-valid
returns-clause-valid c = limitings_keep_valid
