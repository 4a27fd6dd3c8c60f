use Rattle.std.proofs.Common.{◌≡◌, ◌<◌, ◌≤◌, ◌∷◌, [], ◌++◌, All, List, length, get_or, refl, sym, ap, ◌∙◌, subst, arith}
use Rattle.std.specs.Prelude.{ℕ}
use Rattle.sw_graph.specs.Parents.{AreParents}
use Rattle.sw_graph.specs.Walks.{with_number}
use Rattle.sw_graph.proofs.Parents.{filled, first_stays, longer_with, parents_first, parents_more}
use Rattle.sw_graph.proofs.Walking.{Walks, complete, nearer, walks_first, walks_on}
use Rattle.sw_graph.proofs.ways.walk_with_parents.Goals as goal

pub loop-done-init : goal.loop-done-init
loop-done-init g c =
    let next = g.S.Steps.next c.args.steps.now in
    let start = c.args.start in
    let found : c.add.new.self.numbers ≡ start ∷ [] = c.in_ok-add.ensures.ok ∙ ap (λ (l : List ℕ). with_number l start) c.requires.numbers in
    let parents : c.push.new.self.items ≡ 0 ∷ [] = c.in_ok-push.ensures.items ∙ ap (λ (l : List ℕ). l ++ 0 ∷ []) c.requires.parents in
    record {
      bound = c.in_ok-add.ensures.bound;
      walks = subst (λ (l : List ℕ). Walks next start l 0) (sym found) (walks_first next start);
      parents = subst (λ (l : List ℕ). AreParents next l c.push.new.self.items) (sym found) (subst (AreParents next (start ∷ [])) (sym parents) (parents_first next start));
      first = (omega (arith, ap length found), ap (λ (l : List ℕ). get_or l 0 0) found);
    }

pub add_next-requires-clause-bound : goal.add_next-requires-clause-bound
add_next-requires-clause-bound g c = c.loop-done.invariant.bound ∙ c.requires.bound

pub add_next-requires-clause-inside : goal.add_next-requires-clause-inside
add_next-requires-clause-inside g c =
    let Q : ℕ → Type 0 = λ k. (n : ℕ) → n < k → All (λ m. m < k) (g.S.Steps.next c.args.steps.now n) in
    subst Q (sym c.loop-done.invariant.bound) c.requires.inside

pub loop-done-smaller : goal.loop-done-smaller
loop-done-smaller g c = nearer c.loop-done.walk.bound c.add_next.new.walk.bound c.loop-done.done c.len.result c.loop-done.walk.bound c.loop-done-test.true c.len.ensures.few refl c.in_ok-add_next.ensures.bound

pub loop-done-preserved : goal.loop-done-preserved
loop-done-preserved g c =
    let next = g.S.Steps.next c.args.steps.now in
    let old = c.loop-done.invariant in
    let numbers = c.loop-done.walk.numbers in
    let parents = c.loop-done.parents.items in
    let done = c.loop-done.done in
    let here = get_or numbers done 0 in
    let within : done < length numbers = subst (λ (n : ℕ). done < n) c.len.ensures.len c.loop-done-test.true in
    let after = c.add_next.new.walk.numbers in
    let found = c.in_ok-add_next.ensures.numbers in
    let longer = longer_with numbers (next here) after found in
    let few : length parents ≤ length after = omega (arith, longer, old.parents.one_each) in
    let more = filled parents c.resize.new.self.items done c.loop-done.parents.len c.len-in-loop-done.result (length after) c.loop-done.parents.ok.0 c.len-in-loop-done.ensures.len few c.in_ok-resize.ensures.items in
    record {
      bound = c.in_ok-add_next.ensures.bound ∙ old.bound;
      walks = walks_on next c.args.start numbers (next here) after done here old.walks within refl refl found;
      parents = parents_more next numbers parents (next here) after c.resize.new.self.items done here old.parents within refl refl found more;
      first = first_stays numbers (next here) after c.args.start found old.first.0 old.first.1;
    }

pub returns-clause-first : goal.returns-clause-first
returns-clause-first g c = c.loop-done.invariant.first.1

pub returns-clause-complete : goal.returns-clause-complete
returns-clause-complete g c =
    complete (g.S.Steps.next c.args.steps.now) c.args.start c.loop-done.walk.numbers c.loop-done.done c.loop-done.invariant.walks (subst (λ (n : ℕ). n ≤ c.loop-done.done) c.len.ensures.len c.loop-done-test.false)
