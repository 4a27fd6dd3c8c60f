use Rattle.std.proofs.lemmas.Result.{IfOk-weaker}
use Rattle.sw_search.proofs.Faulty.{faults_are}
use Rattle.sw_search.proofs.workers.SideBySideVerdictWorkers.faults_of_flows.Goals as goal

pub returns : goal.returns
returns g c = IfOk-weaker c.map_all.result _ _ (λ v h. faults_are c.args.network.now c.flows.result v.items c.flows.ensures.count h) c.map_all.ensures
