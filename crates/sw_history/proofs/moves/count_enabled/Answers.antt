use Rattle.std.proofs.Common.{ap, arith, false, length, subst, true, ◌*◌, ◌+◌, ◌∙◌}
use Rattle.sw_history.proofs.Enabled.{none_below, one_more}
use Rattle.sw_history.proofs.Ready.{add_none, all_counted}
use Rattle.sw_history.proofs.moves.count_enabled.Goals as goal
use Rattle.sw_history.proofs.moves.count_enabled.Goals.{else-can_step, then-can_step}
use Rattle.sw_history.specs.Enabled.{CanStepBelow}
use Rattle.sw_net.specs.Asked.{CanStep}
use Rattle.sw_config.specs.Entries.{Declaration}

pub loop-number-init : goal.loop-number-init
loop-number-init g c = (omega arith, none_below c.args.net.now)

pub loop-number-preserved : goal.loop-number-preserved
loop-number-preserved g c =
    let v = c.args.net.now in
    let n = c.loop-number.number in
    let count = c.loop-number.count in
    let below = c.loop-number.invariant.1 in
    let few = c.loop-number.invariant.0 in
    let here = subst (λ k. CanStep v k c.can_step.result) c.new.ensures c.can_step.ensures in
    let same = add_none count in
    elim c.if-can_step.branch [
      | then-can_step w ↦ rw w.count-is (omega (arith, few), one_more v n count true (subst (CanStep v n) w.if-can_step.true here) below)
      | else-can_step w ↦ rw w.count-is (omega (arith, few), subst (CanStepBelow v (n + 1)) same (one_more v n count false (subst (CanStep v n) w.if-can_step.false here) below))
    ]

pub returns : goal.returns
returns g c =
    let v = c.args.net.now in
    let all = all_counted c.loop-number.number c.channels-number-end.result (2 * length v.declared.links) c.loop-number-test.false c.loop-number.auto.number-end
    (c.channels-number-end.ensures.count ∙ ap (λ (d : Declaration). 2 * length d.links) c.network.ensures.network) in
    subst (λ k. CanStepBelow v k c.loop-number.count) all c.loop-number.invariant.1
