use Rattle.std.proofs.Common.{ap, arith, false, length, subst, sym, true, ◌*◌, ◌+◌, ◌∙◌}
use Rattle.sw_history.proofs.Enabled.{none_below, one_more}
use Rattle.sw_history.proofs.Ready.{add_none, all_counted}
use Rattle.sw_history.proofs.moves.nth_enabled.Goals as goal
use Rattle.sw_history.proofs.moves.nth_enabled.Goals.{else-can_step, then-can_step+else-before-index}
use Rattle.sw_history.specs.Enabled.{CanStepBelow}
use Rattle.sw_net.specs.Asked.{CanStep}
use Rattle.sw_config.specs.Entries.{Declaration}

pub loop-number-init : goal.loop-number-init
loop-number-init g c = (omega arith, omega arith, none_below c.args.net.now)

pub returns-then-before-index-clause-nth : goal.returns-then-before-index-clause-nth
returns-then-before-index-clause-nth g c =
    let v = c.args.net.now in
    (subst (CanStep v c.new-end.result) c.if-can_step.true c.can_step.ensures, subst (λ k. CanStepBelow v k c.args.index) (sym c.new-end.ensures) (subst (CanStepBelow v c.loop-number.number) c.if-before-index.true c.loop-number.invariant.2))

pub loop-number-preserved : goal.loop-number-preserved
loop-number-preserved g c =
    let v = c.args.net.now in
    let n = c.loop-number.number in
    let before = c.loop-number.before in
    let below = c.loop-number.invariant.2 in
    let few = c.loop-number.invariant.0 in
    let small = c.loop-number.invariant.1 in
    let here = subst (λ k. CanStep v k c.can_step.result) c.new-end.ensures c.can_step.ensures in
    let same = add_none before in
    elim c.if-can_step.branch [
      | then-can_step+else-before-index w ↦ let other = w.if-before-index.false in rw w.before-is (omega (arith, few, small, other), omega (arith, few, small, other), one_more v n before true (subst (CanStep v n) w.if-can_step.true here) below)
      | else-can_step w ↦ rw w.before-is (omega (arith, few, small), omega (arith, few, small), subst (CanStepBelow v (n + 1)) same (one_more v n before false (subst (CanStep v n) w.if-can_step.false here) below))
    ]

pub returns-clause-nth : goal.returns-clause-nth
returns-clause-nth g c =
    let v = c.args.net.now in
    let all = all_counted c.loop-number.number c.channels-number-end.result (2 * length v.declared.links) c.loop-number-test.false c.loop-number.auto.number-end
    (c.channels-number-end.ensures.count ∙ ap (λ (d : Declaration). 2 * length d.links) c.network.ensures.network) in
    (c.loop-number.before, subst (λ k. CanStepBelow v k c.loop-number.before) all c.loop-number.invariant.2, c.loop-number.invariant.0)
