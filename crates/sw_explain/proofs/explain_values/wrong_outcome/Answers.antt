use Rattle.std.proofs.Common.{arith, map, string_bytes}
use Rattle.sw_json.proofs.PlainAnswers.{flat_of, whole_of}
use Rattle.sw_explain.proofs.explain_values.wrong_outcome.Goals as goal

pub invariant_of-result : goal.invariant_of-result
invariant_of-result c =
    let is = c.in_ok-result.ensures in
    let plain = c.explanations_are_plain.ensures.wrong c.args.network.now (map string_bytes c.deref.result.now) c.args.flow c.args.place c.args.fault c.args.way.now in
    record {
      whole = whole_of 6 _ _ is plain;
      flat = flat_of 6 _ _ (omega arith) is plain;
    }
