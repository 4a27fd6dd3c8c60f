use Rattle.std.proofs.Common.{arith}
use Rattle.sw_app.proofs.PlaceChannels.{route_within}
use Rattle.sw_json.proofs.PlainAnswers.{flat_of, whole_of}
use Rattle.sw_json_verdicts.proofs.route_values.flow_outcome.Goals as goal

pub told_route-requires-clause-places : goal.told_route-requires-clause-places
told_route-requires-clause-places c = route_within c.args.network.now c.args.route.now c.deref.result.now c.requires c.deref.ensures.value

pub invariant_of-result : goal.invariant_of-result
invariant_of-result c =
    let told = c.in_ok-result.ensures in
    let plain = c.routes_are_plain.ensures c.args.network.now c.args.route.now.flow told.0 c.deref.result.now c.args.route.now.fault in
    record {
      whole = whole_of 3 _ _ told.2 plain;
      flat = flat_of 3 _ _ (omega arith) told.2 plain;
    }
