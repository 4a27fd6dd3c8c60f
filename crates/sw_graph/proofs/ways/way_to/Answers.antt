use Rattle.std.proofs.Common.{◌∷◌, [], ◌++◌, ◌<◌, List, get_or, reverse, refl, sym, ap, ◌∙◌, subst, arith}
use Rattle.std.specs.Prelude.{ℕ}
use Rattle.sw_graph.proofs.Parents.{Onward, onward_first, onward_more}
use Rattle.sw_graph.proofs.ways.way_to.Goals as goal

pub loop-at-init : goal.loop-at-init
loop-at-init g c =
    let next = g.S.Steps.next c.args.steps.now in
    let here = c.in-Some.ensures.found in
    let pushed = c.in_ok-push.ensures.items ∙ ap (λ (l : List ℕ). l ++ c.args.goal ∷ []) c.new-way.ensures.items in
    record {
      within = here.0;
      onward = subst (λ (l : List ℕ). Onward next c.args.goal (get_or c.args.walk.now.numbers c.in-Some.at 0) (reverse l)) (sym pushed) (subst (λ n. Onward next c.args.goal n (reverse (c.args.goal ∷ []))) (sym here.1) (onward_first next c.args.goal c.args.goal refl));
    }

pub loop-at-preserved : goal.loop-at-preserved
loop-at-preserved g c =
    let next = g.S.Steps.next c.args.steps.now in
    let numbers = c.args.walk.now.numbers in
    let at = c.loop-at.at in
    let parent = get_or c.args.parents.now at 0 in
    let old = c.loop-at.invariant in
    let some : 0 < at = c.loop-at-test.true in
    let earlier = c.requires.earlier at some old.within in
    let pushed = c.in_ok-push-2.ensures.items ∙ ap (λ n. c.loop-at.way.items ++ n ∷ []) c.at.ensures.number in
    record {
      within = omega (arith, earlier, old.within);
      onward = subst (λ (l : List ℕ). Onward next c.args.goal (get_or numbers parent 0) (reverse l)) (sym pushed)
          (onward_more next c.args.goal (get_or numbers parent 0) (get_or numbers at 0) c.loop-at.way.items old.onward (c.requires.leads at some old.within));
    }

pub loop-at-smaller : goal.loop-at-smaller
loop-at-smaller g c = c.requires.earlier c.loop-at.at c.loop-at-test.true c.loop-at.invariant.within
