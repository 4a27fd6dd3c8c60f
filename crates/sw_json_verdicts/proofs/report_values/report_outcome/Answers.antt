use Rattle.std.proofs.Common.{arith, refl}
use Rattle.sw_json.proofs.PlainAnswers.{flat_of, whole_of}
use Rattle.sw_json_verdicts.proofs.ReportFound.{found}
use Rattle.sw_json_verdicts.proofs.report_values.report_outcome.Goals as goal

pub invariant_of-result : goal.invariant_of-result
invariant_of-result c =
    let noted = c.in_ok-lint.ensures in
    let is = found c.args.network.now noted.0 c.args.findings.now _ _ _ noted.2 c.in_ok-verdict.ensures c.in_ok-result.ensures in
    let plain = c.reports_are_plain.ensures c.args.network.now noted.0 c.args.findings.now in
    record {
      whole = whole_of 5 _ _ is plain;
      flat = flat_of 5 _ _ (omega arith) is plain;
    }

pub returns : goal.returns
returns c =
    let noted = c.in_ok-lint.ensures in
    let is = found c.args.network.now noted.0 c.args.findings.now _ _ _ noted.2 c.in_ok-verdict.ensures c.in_ok-result.ensures in
    (noted.0, noted.1, (is, refl))
