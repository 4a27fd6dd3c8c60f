use Rattle.std.proofs.Common.{◌∙◌, List, arith, subst}
use Rattle.std.proofs.lemmas.List.{take_all}
use Rattle.sw_mend.specs.Mends.{AreThose, FailsAlone}
use Rattle.sw_mend.specs.declared.change.Change.{Change}
use Rattle.sw_mend.proofs.OfKinds.{removals_are}
use Rattle.sw_mend.proofs.Paired.{failing_decided}
use Rattle.sw_mend.proofs.Told.{told_more}
use Rattle.sw_mend.proofs.pairs.failing_alone.Goals as goal

pub loop-number-preserved : goal.loop-number-preserved
loop-number-preserved g c =
    let d = c.args.network.now in (
      c.in_ok-freed.ensures.known,
      told_more (FailsAlone d) _ c.loop-number.number c.change-item.result _ _ _ c.loop-number-test.true c.change-item.is c.loop-number.invariant.1
          (failing_decided d c.change-item.result c.in_ok-freed.freed c.in_ok-freed.ensures.decided) c.in_ok-add_if.ensures,
    )

pub returns-clause-those : goal.returns-clause-those
returns-clause-those g c =
    let d = c.args.network.now in
    let changes = c.deref-change-items.result.now in
    let all = subst (λ (l : List Change). AreThose (FailsAlone d) l c.loop-number.failing.items)
    (take_all c.loop-number.number changes (omega (arith, c.loop-number-test.false))) c.loop-number.invariant.1 in
    subst (λ (l : List Change). AreThose (FailsAlone d) l c.loop-number.failing.items) (c.deref-change-items.ensures.value ∙ c.in_ok-changes.ensures ∙ removals_are d) all
