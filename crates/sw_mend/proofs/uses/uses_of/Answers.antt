use Rattle.std.proofs.Common.{◌∙◌, All, List, ap, arith, map, subst}
use Rattle.sw_cycle.specs.Cycles.{CauseEntry, CycleEntry, cause_of}
use Rattle.sw_mend.specs.Spared.{IsCauseUsed}
use Rattle.sw_mend.proofs.Using.{all_causes, one_cause_more}
use Rattle.sw_mend.proofs.uses.uses_of.Goals as goal

pub loop-cause-init : goal.loop-cause-init
loop-cause-init c k x lt = absurd (omega (arith, lt))

pub loop-cause-preserved : goal.loop-cause-preserved
loop-cause-preserved c =
    one_cause_more c.args.network.now c.loop-cause.uses c.add_uses.new.uses _ c.loop-cause.cause-index c.cause-item.result c.loop-cause-test.true c.cause-item.is c.loop-cause.invariant
    c.in_ok-add_uses.ensures.0 c.in_ok-add_uses.ensures.1

pub returns : goal.returns
returns c =
    let all = all_causes c.args.network.now c.loop-cause.uses c.deref-cause-items.result.now c.loop-cause.cause-index (omega (arith, c.loop-cause-test.false)) c.loop-cause.invariant in
    subst (λ (l : List CauseEntry). All (IsCauseUsed c.args.network.now c.loop-cause.uses) l)
    (ap (map cause_of) c.deref-cause-items.ensures.value ∙ ap (λ (v : CycleEntry). v.causes) c.cycle.view_is) all
