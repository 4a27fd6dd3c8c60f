use Rattle.sw_runs.proofs.RunsAlone.{runs_alone}
use Rattle.sw_runs.proofs.run_finding.run.Goals as goal

pub returns-clause-ended : goal.returns-clause-ended
returns-clause-ended g c =
    let form = c.args.form.now in
    let end = c.run_recorded.ensures in
    runs_alone c.args.options.limit (g.F.Form.tells form) (g.F.Form.faulty form) (g.F.Form.long form) g.F.Form.memory _ _ _ _ _ _ _ _ _ _ _ _ end.read
    end.found end.there end.told
