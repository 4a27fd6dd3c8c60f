use Rattle.sw_journal.proofs.Idle.{none_left, stuck_by, stuck_left}
use Rattle.sw_journal.proofs.journal.Journal.is_stuck.Goals as goal

pub returns-then-undelivered-ne0 : goal.returns-then-undelivered-ne0
returns-then-undelivered-ne0 c = (
  (λ still. stuck_by c.args.self.now c.undelivered.result c.undelivered.ensures.count c.if-undelivered-ne0.true (c.is_still.ensures.0 still)),
  (λ stuck. c.is_still.ensures.1 stuck.still),
)

pub returns-else-undelivered-ne0 : goal.returns-else-undelivered-ne0
returns-else-undelivered-ne0 c = (
  (λ some. absurd (none_left c.undelivered.result c.if-undelivered-ne0.false some)),
  (λ stuck. stuck_left c.args.self.now c.undelivered.result c.undelivered.ensures.true_view c.undelivered.ensures.count stuck),
)
