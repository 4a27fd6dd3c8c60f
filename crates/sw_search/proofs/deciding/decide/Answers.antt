use Rattle.sw_search.proofs.Entered.{is_checked}
use Rattle.sw_search.proofs.deciding.decide.Goals as goal

pub returns-clause-checked : goal.returns-clause-checked
returns-clause-checked g c = is_checked c.free_is_accepted.ensures c.cyclic_is_shown.ensures c.args.network.now c.topology-topology.ensures.valid c.in_ok-findings.findings.verdict c.in_ok-findings.ensures.verdict
