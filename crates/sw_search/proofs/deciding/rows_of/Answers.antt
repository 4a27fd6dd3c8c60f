use Rattle.std.proofs.Common.{◌↔◌, length}
use Rattle.std.specs.Prelude.{IsTrue}
use Rattle.std.proofs.lemmas.Result.{IfOk-weaker}
use Rattle.sw_config.specs.Entries.{all_flows}
use Rattle.sw_cycle.specs.Named.{AreRouted}
use Rattle.sw_search.proofs.Routed.{all_routed}
use Rattle.sw_search.proofs.deciding.rows_of.Goals as goal
use Rattle.sw_search.specs.Verdicts.{AllWellRouted}

pub returns-clause-routed : goal.returns-clause-routed
returns-clause-routed g c =
    let d = c.args.network.now in
    IfOk-weaker c.routed_dependencies.result (λ r. IsTrue r.1 ↔ AreRouted d 0 (length (all_flows d))) (λ r. IsTrue r.1 → AllWellRouted d) (λ r are e. all_routed d (are.0 e)) c.routed_dependencies.ensures.routed
