use Rattle.sw_history.proofs.IdleEmpty.{accepted_idle_is_empty, accepted_idle_is_empty_within_limits}
use Rattle.sw_history.proofs.drain_laws.accepted_idle_is_empty.Goals as goal

pub returns-clause-within_limits : goal.returns-clause-within_limits
returns-clause-within_limits c = accepted_idle_is_empty_within_limits

pub returns-clause-without_limits : goal.returns-clause-without_limits
returns-clause-without_limits c = accepted_idle_is_empty
