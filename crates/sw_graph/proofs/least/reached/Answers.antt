use Rattle.std.proofs.Common.{◌<◌, ◌≤◌, All, List, length, get_or, refl, subst, sym, ap, ◌∙◌}
use Rattle.std.specs.Prelude.{ℕ}
use Rattle.sw_graph.specs.Walks.{Found, with_number}
use Rattle.sw_graph.proofs.Walking.{Walks, nearer, walks_first, walks_on, listing, all_below, on_ok_both}
use Rattle.sw_graph.proofs.least.reached.Goals as goal

pub loop-done-init : goal.loop-done-init
loop-done-init g c =
    let made = c.in_ok-walk.ensures in
    let found = c.in_ok-add.ensures.ok ∙ ap (λ (f : Found). with_number f.numbers c.args.start) made in
    record {
      bound = c.in_ok-add.ensures.bound ∙ ap (λ (f : Found). f.bound) made;
      walks = subst (λ (l : List ℕ). Walks (g.S.Steps.next c.args.steps.now) c.args.start l 0) (sym found) (walks_first (g.S.Steps.next c.args.steps.now) c.args.start);
    }

pub add_next-requires-clause-bound : goal.add_next-requires-clause-bound
add_next-requires-clause-bound g c = c.loop-done.invariant.bound ∙ c.requires.bound

pub add_next-requires-clause-inside : goal.add_next-requires-clause-inside
add_next-requires-clause-inside g c =
    let P : ℕ → Type 0 = λ k. (n : ℕ) → n < k → All (λ m. m < k) (g.S.Steps.next c.args.steps.now n) in
    subst P (sym c.loop-done.invariant.bound) c.requires.inside

pub add_next-requires-clause-place : goal.add_next-requires-clause-place
add_next-requires-clause-place g c = subst (λ (n : ℕ). c.loop-done.done < n) c.len.ensures.len c.loop-done-test.true

pub loop-done-smaller : goal.loop-done-smaller
loop-done-smaller g c = nearer c.args.bound c.args.bound c.loop-done.done c.len.result c.loop-done.walk.bound c.loop-done-test.true c.len.ensures.few c.loop-done.invariant.bound refl

pub loop-done-preserved : goal.loop-done-preserved
loop-done-preserved g c =
    let next = g.S.Steps.next c.args.steps.now in
    let numbers = c.loop-done.walk.numbers in
    let here = get_or numbers c.loop-done.done 0 in
    record {
      bound = c.in_ok-add_next.ensures.bound ∙ c.loop-done.invariant.bound;
      walks = walks_on next c.args.start numbers (next here) c.add_next.new.walk.numbers c.loop-done.done here c.loop-done.invariant.walks (subst (λ (n : ℕ). c.loop-done.done < n) c.len.ensures.len c.loop-done-test.true) refl refl c.in_ok-add_next.ensures.numbers;
    }

pub returns : goal.returns
returns g c =
    let next = g.S.Steps.next c.args.steps.now in
    let start = c.args.start in
    let past : length c.loop-done.walk.numbers ≤ c.loop-done.done = subst (λ (n : ℕ). n ≤ c.loop-done.done) c.len.ensures.len c.loop-done-test.false in
    let found = on_ok_both c.into_sorted.result (λ v rising same. listing next start c.loop-done.walk.numbers v.items c.loop-done.done c.loop-done.invariant.walks past same rising) c.into_sorted.ensures.rising c.into_sorted.ensures.same in
    record {
      listing = found;
      below = on_ok_both c.into_sorted.result (λ v l here. all_below next start c.args.bound c.requires.start c.requires.inside v.items l) found found;
    }
