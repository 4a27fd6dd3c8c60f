use Rattle.sw_net.proofs.CountedCommands.{allowed_is_within_limits, counted_at_first, counted_with_each_step, counts_are_unanswered}
use Rattle.sw_net.proofs.unanswered.counts_are_unanswered.Goals as goal

pub returns-clause-first : goal.returns-clause-first
returns-clause-first c = counted_at_first

pub returns-clause-each_step : goal.returns-clause-each_step
returns-clause-each_step c = counted_with_each_step

pub returns-clause-unanswered : goal.returns-clause-unanswered
returns-clause-unanswered c = counts_are_unanswered

pub returns-clause-allowed : goal.returns-clause-allowed
returns-clause-allowed c = allowed_is_within_limits
