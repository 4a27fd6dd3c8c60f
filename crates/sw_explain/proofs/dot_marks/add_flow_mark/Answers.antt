use Rattle.std.proofs.Common.{◌==◌, string_bytes}
use Rattle.sw_flow.specs.declared.place.Place.{Place}
use Rattle.sw_explain.proofs.First.{none_passes, one_passes, still_none}
use Rattle.sw_explain.proofs.Lists.{flow_begun, flow_not_begun}
use Rattle.sw_explain.proofs.dot_marks.add_flow_mark.Goals as goal

pub loop-place-preserved : goal.loop-place-preserved
loop-place-preserved c = (
  c.loop-place.invariant.0,
  still_none (λ (p : Place). p.channel == c.args.channel) c.args.places.now c.place-item.result c.loop-place.place-index c.eq.result c.loop-place-test.true c.place-item.is c.eq.ensures c.loop-place.invariant.1 c.if-eq.false,
)

pub returns-then-eq : goal.returns-then-eq
returns-then-eq c =
    let on = one_passes (λ (p : Place). p.channel == c.args.channel) c.args.places.now c.place-item.result c.loop-place.place-index c.eq.result c.loop-place-test.true c.place-item.is c.eq.ensures c.if-eq.true in
    flow_begun c.args.places.now c.args.channel c.number-number.result (string_bytes c.args.text.now) (string_bytes c.loop-place.text) (string_bytes c.write.new.self) c.number-number.ensures on
    c.loop-place.invariant.0 c.in_ok-write.ensures.bytes

pub returns : goal.returns
returns c =
    let off = none_passes (λ (p : Place). p.channel == c.args.channel) c.args.places.now c.loop-place.place-index c.loop-place-test.false c.loop-place.invariant.1 in
    flow_not_begun c.args.places.now c.args.channel (string_bytes c.args.text.now) (string_bytes c.loop-place.text) off c.loop-place.invariant.0
