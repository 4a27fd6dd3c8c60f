use Rattle.std.proofs.Common.{ℕ, ◌≡◌, ◌<◌, ◌-◌, ◌++◌, ◌∷◌, [], List, length, sym, ap, ap₂, ◌∙◌, arith}
use Rattle.sw_flow.specs.declared.place.Place.{Place}
use Rattle.sw_flow.specs.Places.{ends_of}
use Rattle.sw_margin.proofs.Ways.{waits_begun, waits_from, waits_more}
use Rattle.sw_margin.proofs.way.add_waits_back.Goals as goal

pub loop-init : goal.loop-init
loop-init c =
    let d = c.args.network.now in
    let whole : length (ends_of d) - 0 ≡ length (ends_of d) = omega arith in
    ap (λ (n : ℕ). c.args.waits.now.items ++ waits_from d c.args.flow.now n c.flow_start-place.result) whole
    ∙ ap (λ (l : List (ℕ × ℕ)). c.args.waits.now.items ++ l)
    (sym (waits_begun d c.args.flow.now c.flow_start-place.result c.flow_start-place.ensures.start (ap (λ (p : Place). p.deleted) c.flow_start-place.ensures.place)))

pub loop-preserved : goal.loop-preserved
loop-preserved c =
    let d = c.args.network.now in
    let before = c.loop.waits.items in
    let lt : c.loop.counter < length (ends_of d) = omega (arith, c.loop-test.true, c.channels-end.ensures.ends) in
    waits_more d c.args.flow.now (length (ends_of d)) c.loop.counter c.loop.place c.in-Some.next c.args.waits.now.items before _ lt (sym c.in-Some.ensures) c.loop.invariant
    (c.in_ok-push.ensures.items ∙ ap₂ (λ (a b : ℕ). before ++ (a, b) ∷ []) (c.number.ensures ∙ c.partner.ensures) (c.number-in-loop.ensures ∙ c.partner-in-loop.ensures))

pub returns : goal.returns
returns c =
    let d = c.args.network.now in
    let past : length (ends_of d) - c.loop.counter ≡ 0 = omega (arith, c.loop-test.false, c.channels-end.ensures.ends) in
    ap (λ (n : ℕ). c.loop.waits.items ++ waits_from d c.args.flow.now n c.loop.place) (sym past) ∙ c.loop.invariant
