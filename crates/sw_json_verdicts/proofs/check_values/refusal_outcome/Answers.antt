use Rattle.std.proofs.Common.{arith}
use Rattle.sw_json.proofs.PlainAnswers.{flat_of, whole_of}
use Rattle.sw_json_verdicts.specs.Reasons.{reason_parts_view}
use Rattle.sw_json_verdicts.proofs.check_values.refusal_outcome.Goals as goal

pub invariant_of-result : goal.invariant_of-result
invariant_of-result c = record {
  whole = whole_of 1 _ _ c.in_ok-result.ensures (c.refusals_are_plain.ensures (reason_parts_view c.args.parts) c.args.text.now);
  flat = flat_of 1 _ _ (omega arith) c.in_ok-result.ensures (c.refusals_are_plain.ensures (reason_parts_view c.args.parts) c.args.text.now);
}
