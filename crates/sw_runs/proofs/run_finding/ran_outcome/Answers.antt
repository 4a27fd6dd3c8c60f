use Rattle.std.proofs.Common.{arith}
use Rattle.serde_json.specs.View.{view}
use Rattle.sw_json.proofs.PlainAnswers.{flat_of, whole_of}
use Rattle.sw_runs.proofs.RunPlain.{run_plain}
use Rattle.sw_runs.specs.RunValues.{run_value}
use Rattle.sw_runs.proofs.run_finding.ran_outcome.Goals as goal

pub invariant_of-result : goal.invariant_of-result
invariant_of-result c =
    let d = c.args.network.now in
    let r = c.args.report.now in
    record {
      whole = whole_of 5 (view c.in_ok-result.result) (run_value d r) c.in_ok-result.ensures (run_plain d r);
      flat = flat_of 5 (view c.in_ok-result.result) (run_value d r) (omega arith) c.in_ok-result.ensures (run_plain d r);
    }
