use Rattle.std.proofs.Common.{ℕ, ◌≡◌, ◌<◌, ◌-◌, length, sym, ap, ◌∙◌, arith}
use Rattle.sw_flow.specs.declared.place.Place.{Place}
use Rattle.sw_flow.specs.Places.{ends_of}
use Rattle.sw_margin.specs.Bends.{goes_one_way}
use Rattle.sw_margin.proofs.Ways.{alone_begun, alone_from, alone_more}
use Rattle.sw_margin.proofs.way.goes_one_way.Goals as goal

pub loop-init : goal.loop-init
loop-init c =
    let d = c.args.network.now in
    let whole : length (ends_of d) - 0 ≡ length (ends_of d) = omega arith in
    ap (λ (n : ℕ). alone_from d c.args.flow.now n c.flow_start-place.result) whole
    ∙ alone_begun d c.args.flow.now c.flow_start-place.result c.flow_start-place.ensures.start (ap (λ (p : Place). p.deleted) c.flow_start-place.ensures.place)

pub loop-preserved : goal.loop-preserved
loop-preserved c =
    let d = c.args.network.now in
    let lt : c.loop.counter < length (ends_of d) = omega (arith, c.loop-test.true, c.channels-end.ensures.ends) in
    alone_more d c.args.flow.now (length (ends_of d)) c.loop.counter c.loop.place c.in-Some.next (goes_one_way d c.args.flow.now) lt (sym c.goes_on_to_one.ensures ∙ c.if-not-goes_on_to_one.false) (sym c.in-Some.ensures) c.loop.invariant
