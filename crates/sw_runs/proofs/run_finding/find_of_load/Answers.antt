use Rattle.std.proofs.lemmas.Result.{IfOk-weaker}
use Rattle.std.specs.Prelude.{Ok}
use Rattle.sw_runs.specs.RunAnswers.{IsFoundOfLoad, IsReportOf}
use Rattle.sw_runs.proofs.run_finding.find_of_load.Goals as goal

pub returns : goal.returns
returns g c =
    IfOk-weaker c.report_of.result (IsReportOf c.args.wants c.args.network.now c.args.load.now c.in_ok-outcome.outcome)
    (IsFoundOfLoad c.args.options.limit c.args.wants c.args.network.now (Ok c.args.load.now)) (λ found is. (c.in_ok-outcome.outcome, c.in_ok-outcome.ensures, is))
    c.report_of.ensures
