use Rattle.sw_machine.proofs.model_laws.without_outstanding_no_limits.Goals as goal
use Rattle.sw_machine.proofs.WithoutOutstanding.{without_outstanding_no_limits}

pub returns : goal.returns
returns c = without_outstanding_no_limits
