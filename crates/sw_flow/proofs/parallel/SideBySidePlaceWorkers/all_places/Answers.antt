use Rattle.std.proofs.lemmas.Result.{IfOk-weaker}
use Rattle.sw_flow.proofs.Jobs.{made_for_flows}
use Rattle.sw_flow.proofs.parallel.SideBySidePlaceWorkers.all_places.Goals as goal

pub returns : goal.returns
returns g c = IfOk-weaker c.map_all.result _ _ (λ v h. made_for_flows c.args.network.now c.flows.result v.items c.flows.ensures.count h) c.map_all.ensures
