use Rattle.sw_app.specs.CheckAnswers.{IsCheckFinding, check_lines, check_status}
use Rattle.sw_engine.proofs.LineEnds.{two_paths_in_lines}
use Rattle.sw_calls.proofs.files.check_files.Goals as goal

pub returns-clause-read : goal.returns-clause-read
returns-clause-read g c =
    let read = c.check_files_in_form.ensures.read in
    (two_paths_in_lines IsCheckFinding check_lines check_status _ _ _ _ _ read.0, read.1)
