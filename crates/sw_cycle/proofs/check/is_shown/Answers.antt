use Rattle.std.proofs.Common.{◌∙◌, map, refl, sym, arith}
use Rattle.std.proofs.lemmas.Bool.{false≢true}
use Rattle.sw_cycle.specs.Cycles.{cause_of}
use Rattle.sw_cycle.proofs.Checking.{all_caused, caused_at, caused_more, IsReadAt}
use Rattle.sw_cycle.proofs.check.is_shown.Goals as goal

pub loop-place-preserved : goal.loop-place-preserved
loop-place-preserved c =
    let d = c.args.network.now in
    let channels = c.args.channels.now in
    let causes = c.args.causes.now in
    let i = c.loop-place.place in
    let cause = c.index-causes-place in
    let here = c.index-channels-place-in-loop-place in
    let next = c.index-channels-place in
    let lt = c.loop-place-test.true in
    let same = c.if-causes-count.false in
    let read : IsReadAt channels causes i cause.result here.result next.result =
    record { some = omega (arith, lt); within = omega (arith, lt, same); one_each = same; cause_is = cause.is; here_is = here.is; next_is = next.is }
    in
    let at = caused_at d channels causes i cause.result here.result next.result read c.is_cause.result c.is_cause.ensures in
    caused_more d channels (map cause_of causes) i c.loop-place.invariant (at.0 c.if-not-is_cause.false)

pub returns-then-not-is_cause : goal.returns-then-not-is_cause
returns-then-not-is_cause c =
    let d = c.args.network.now in
    let channels = c.args.channels.now in
    let causes = c.args.causes.now in
    let i = c.loop-place.place in
    let cause = c.index-causes-place in
    let here = c.index-channels-place-in-loop-place in
    let next = c.index-channels-place in
    let lt = c.loop-place-test.true in
    let same = c.if-causes-count.false in
    let read : IsReadAt channels causes i cause.result here.result next.result =
    record { some = omega (arith, lt); within = omega (arith, lt, same); one_each = same; cause_is = cause.is; here_is = here.is; next_is = next.is }
    in
    let at = caused_at d channels causes i cause.result here.result next.result read c.is_cause.result c.is_cause.ensures in
    (λ t. absurd (false≢true t), λ shown. absurd (false≢true (sym c.if-not-is_cause.true ∙ at.1 (shown.caused i))))

pub returns : goal.returns
returns c = (
  λ _. all_caused c.args.network.now c.args.channels.now c.args.causes.now c.loop-place.place (omega arith) c.if-causes-count.false c.loop-place-test.false c.loop-place.invariant,
  λ _. refl,
)
