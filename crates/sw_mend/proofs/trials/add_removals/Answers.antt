use Rattle.std.proofs.Common.{◌∙◌, List, arith, map, subst}
use Rattle.sw_mend.specs.Mends.{AreAdded, Frees}
use Rattle.sw_mend.specs.declared.change.Change.{Change}
use Rattle.sw_mend.specs.declared.change.Trial.TheVariants.{Without}
use Rattle.sw_mend.proofs.Told.{added_more, all_tried, none_added}
use Rattle.sw_mend.proofs.trials.add_removals.Goals as goal

pub loop-number-init : goal.loop-number-init
loop-number-init g c = (c.requires, none_added (Frees c.args.network.now) _)

pub loop-number-preserved : goal.loop-number-preserved
loop-number-preserved g c =
    let d = c.args.network.now in (
      c.in_ok-freed.ensures.known,
      added_more (Frees d) Without _ c.loop-number.number c.change-item.result _ _ _ c.in_ok-freed.freed c.loop-number-test.true c.change-item.is c.loop-number.invariant.1
          c.in_ok-freed.ensures.decided c.in_ok-add_if.ensures,
    )

pub returns-clause-told : goal.returns-clause-told
returns-clause-told g c =
    let d = c.args.network.now in
    let all = all_tried (Frees d) Without c.deref-change-items.result.now c.loop-number.number c.args.mends.now.items c.loop-number.mends.items
    (omega (arith, c.loop-number-test.false)) c.loop-number.invariant.1 in
    subst (λ (l : List Change). AreAdded (Frees d) (map Without l) c.args.mends.now.items c.loop-number.mends.items) (c.deref-change-items.ensures.value ∙ c.in_ok-changes.ensures) all
