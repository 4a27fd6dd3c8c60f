use Rattle.sw_witness.proofs.SameRuns.{other_flows_keep_freedom, other_flows_keep_runs}
use Rattle.sw_witness.proofs.laws.other_flows_keep_freedom.Goals as goal

pub returns : goal.returns
returns c = record { runs = other_flows_keep_runs; freedom = other_flows_keep_freedom }
