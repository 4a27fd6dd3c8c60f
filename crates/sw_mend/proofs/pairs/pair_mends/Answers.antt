use Rattle.std.proofs.Common.{◌∙◌, ◌+◌, List, ap, arith, drop, subst, sym}
use Rattle.std.proofs.lemmas.List.{drop_all, take_rest}
use Rattle.sw_mend.specs.Changes.{pairs_of, removals}
use Rattle.sw_mend.specs.Mends.{AreThosePairs}
use Rattle.sw_mend.specs.declared.change.Change.{Change}
use Rattle.sw_mend.proofs.Paired.{all_told, only_together, told_with}
use Rattle.sw_mend.proofs.pairs.pair_mends.Goals as goal

pub loop-number-preserved : goal.loop-number-preserved
loop-number-preserved g c =
    let after = c.loop-number.number + 1 in
    let rest = take_rest c.deref.result.now after ∙ ap (λ (l : List Change). drop after l) (c.deref.ensures.value ∙ sym c.deref-first-items.ensures.value) in (
      c.in_ok-add_pairs_with.ensures.known,
      told_with c.args.network.now _ _ c.loop-number.number c.first-item.result c.loop-number.pairs.items c.add_pairs_with.new.pairs.items
          c.loop-number-test.true c.first-item.is rest c.loop-number.invariant.1 c.in_ok-add_pairs_with.ensures.told,
    )

pub returns : goal.returns
returns g c =
    let d = c.args.network.now in
    let changes = c.deref-first-items.result.now in
    let all = all_told d changes _ _ (drop_all c.loop-number.number changes (omega (arith, c.loop-number-test.false))) c.loop-number.invariant.1 in
    let told = subst (λ (l : List Change). AreThosePairs d (pairs_of l) c.loop-number.pairs.items) c.deref-first-items.ensures.value all in
    only_together d (removals d) c.in_ok-changes.changes.items c.loop-number.pairs.items c.in_ok-changes.ensures.those told
