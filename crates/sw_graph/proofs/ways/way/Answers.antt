use Rattle.std.proofs.Common.{◌<◌, ℕ, All, sym, ap, ◌∙◌, subst, arith}
use Rattle.sw_graph.specs.Walks.{Found}
use Rattle.std.specs.Prelude.{option_map}
use Rattle.sw_graph.specs.Ways.{IsWayIfReached}
use Rattle.sw_graph.proofs.Cycles.{on_ok_of}
use Rattle.sw_graph.proofs.Parents.{way_if}
use Rattle.sw_graph.proofs.ways.way.Goals as goal

pub walk_with_parents-requires-clause-bound : goal.walk_with_parents-requires-clause-bound
walk_with_parents-requires-clause-bound g c = ap (λ (f : Found). f.bound) c.in_ok-walk.ensures ∙ c.requires.bound

pub walk_with_parents-requires-clause-start : goal.walk_with_parents-requires-clause-start
walk_with_parents-requires-clause-start g c = omega (arith, ap (λ (f : Found). f.bound) c.in_ok-walk.ensures)

pub walk_with_parents-requires-clause-inside : goal.walk_with_parents-requires-clause-inside
walk_with_parents-requires-clause-inside g c =
    let P : ℕ → Type 0 = λ k. (n : ℕ) → n < k → All (λ m. m < k) (g.S.Steps.next c.args.steps.now n) in
    subst P (sym (ap (λ (f : Found). f.bound) c.in_ok-walk.ensures)) c.requires.inside

pub walk_with_parents-requires-clause-numbers : goal.walk_with_parents-requires-clause-numbers
walk_with_parents-requires-clause-numbers g c = ap (λ (f : Found). f.numbers) c.in_ok-walk.ensures

pub walk_with_parents-requires-clause-parents : goal.walk_with_parents-requires-clause-parents
walk_with_parents-requires-clause-parents g c = c.new-parents.ensures.items

pub way_to-requires : goal.way_to-requires
way_to-requires g c = rw c.deref.ensures.value c.in_ok-walk_with_parents.ensures.parents

pub returns : goal.returns
returns g c =
    let next = g.S.Steps.next c.args.steps.now in
    let walked = c.in_ok-walk_with_parents.ensures in
    let numbers = c.walk_with_parents.new.walk.numbers in
    on_ok_of _ (λ found. IsWayIfReached next c.args.start c.args.goal (option_map (λ v. v.items) found)) c.way_to.result (λ found. way_if next c.args.start c.args.goal numbers found walked.first walked.complete) c.way_to.ensures
