use Rattle.sw_runs.proofs.RunsAlone.{run_has_statuses_of_texts}
use Rattle.sw_runs.proofs.laws.run_has_statuses_of_texts.Goals as goal

pub returns : goal.returns
returns c = run_has_statuses_of_texts
