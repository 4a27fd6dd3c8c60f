use Rattle.sw_flow.proofs.WellRouted.{well_routed_by_list}
use Rattle.sw_flow.proofs.laws.well_routed_by_list.Goals as goal

pub returns : goal.returns
returns c = well_routed_by_list
