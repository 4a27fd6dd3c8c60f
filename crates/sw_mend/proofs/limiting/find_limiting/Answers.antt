use Rattle.std.proofs.Common.{◌≡◌, ◌+◌, ◌-◌, Some, arith, subst, sym}
use Rattle.std.proofs.lemmas.Result.{IfOk-weaker}
use Rattle.sw_mend.specs.Limitings.{FreesLimited, IsFirst, IsLimiting, limit_and_slots, limits_from}
use Rattle.sw_mend.proofs.FirstLimits.{next_limit, of_unlimited, this_limit}
use Rattle.sw_mend.proofs.limiting.find_limiting.Goals as goal

pub returns-then-branch : goal.returns-then-branch
returns-then-branch g c =
    let d = c.args.network.now in
    let most = 8 - c.loop-less.less in
    let first = this_limit d most c.in_ok-frees.field-0 (omega (arith, c.loop-less-test.true)) c.in_ok-frees.ensures c.if-branch.true in
    subst (IsLimiting d) (λ t. Some (record { most = Some most; slots = sym c.new-slots.ensures.items t }))
    (of_unlimited d _ c.has_unlimited.result c.has_unlimited.ensures c.if-not-has_unlimited.false (c.loop-less.invariant _ first))

pub loop-less-preserved : goal.loop-less-preserved
loop-less-preserved g c = λ found first.
    c.loop-less.invariant found
    (next_limit c.args.network.now (8 - c.loop-less.less) (8 - (c.loop-less.less + 1)) c.in_ok-frees.field-0 (omega (arith, c.loop-less-test.true)) c.in_ok-frees.ensures c.if-branch.false found first)

pub returns : goal.returns
returns g c =
    let d = c.args.network.now in
    let none : 0 ≡ 8 - c.loop-less.less = omega (arith, c.loop-less-test.false) in
    IfOk-weaker c.limit_and_slots-2.result _ (IsLimiting d)
    (λ found first. of_unlimited d found c.has_unlimited.result c.has_unlimited.ensures c.if-not-has_unlimited.false
    (c.loop-less.invariant found (subst (λ n. IsFirst (FreesLimited d) (limits_from d n) found) none first))) c.limit_and_slots-2.ensures
