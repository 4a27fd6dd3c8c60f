use Rattle.sw_config.proofs.FlowLaws.{distinct_names}
use Rattle.sw_config.proofs.laws.names_are_distinct.Goals as goal

pub returns : goal.returns
returns c = distinct_names
