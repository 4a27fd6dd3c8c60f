use Rattle.sw_margin.proofs.Greatest.{flow_limits_are_determined}
use Rattle.sw_margin.proofs.laws.flow_limits_are_determined.Goals as goal

pub returns : goal.returns
returns c = flow_limits_are_determined
