use Rattle.std.proofs.Common.{◌≡◌, ◌∙◌, ◌<◌, ℕ, ◌↔◌, Bool, false, List, [], length, sym, subst, ap, arith}
use Rattle.std.specs.Prelude.{Contains, slice_index_or}
use Rattle.std.specs.List.Sorted.{IsStrictlyIncreasing}
use Rattle.std.proofs.lemmas.List.{get_or_default}
use Rattle.std.proofs.lemmas.List.Sorted.{Contains-permutation, IsNonDecreasingBy-from_sort, IsPermutation-sym}
use Rattle.sw_graph.specs.Walks.{Found}
use Rattle.sw_graph.proofs.Marked.{marked_all, marked_kept, marked_left, marked_rise, marked_same}
use Rattle.sw_graph.proofs.Numbers.{rising_from_sort}
use Rattle.sw_graph.proofs.walk.Walk.into_sorted.Goals.{then-index+in_ok-push, else-index}
use Rattle.sw_graph.proofs.walk.Walk.into_sorted.Goals as goal

pub returns-then-len-clause-rising : goal.returns-then-len-clause-rising
returns-then-len-clause-rising c =
    rising_from_sort _ _ c.self.invariant.once c.sort_unstable.ensures.permutation (IsNonDecreasingBy-from_sort (λ x. x) _ c.sort_unstable.ensures.sorted)

pub returns-then-len-clause-same : goal.returns-then-len-clause-same
returns-then-len-clause-same c =
    let same = c.sort_unstable.ensures.permutation in
    let view : c.args.self.numbers ≡ c.self.inside.numbers.items = sym (ap (λ (f : Found). f.numbers) c.self.view_is) in
    λ n. rw view (Contains-permutation _ _ n same, Contains-permutation _ _ n (IsPermutation-sym _ _ same))

pub loop-number-preserved : goal.loop-number-preserved
loop-number-preserved c =
    let n = c.loop-number.number in
    let marks = c.self.inside.is_found.items in
    let test : ℕ → Bool = λ k. slice_index_or marks k false in
    let lt : n < length marks = omega (arith, c.loop-number-test.true, c.len-number-end.ensures, c.self.inside.is_found.ok.0) in
    let read : test n ≡ c.index.result.now = get_or_default marks n false c.index.result.now lt ∙ sym c.index.ensures in
    elim c.if-index.branch [
      | then-index+in_ok-push w ↦ marked_kept test n [] c.loop-number.numbers.items _ (read ∙ w.if-index.true) c.loop-number.invariant (ap (λ v. v.items) w.numbers-is ∙ w.in_ok-push.ensures.items)
      | else-index w ↦ marked_left test n [] c.loop-number.numbers.items _ (read ∙ w.if-index.false) c.loop-number.invariant (ap (λ v. v.items) w.numbers-is)
    ]

pub returns-clause-rising : goal.returns-clause-rising
returns-clause-rising c =
    let marks = c.self.inside.is_found.items in
    let all : c.loop-number.number ≡ length marks = omega (arith, c.loop-number-test.false, c.loop-number.auto.number-end, c.len-number-end.ensures, c.self.inside.is_found.ok.0) in
    subst IsStrictlyIncreasing (sym (marked_all marks c.loop-number.numbers.items c.loop-number.number all c.loop-number.invariant)) (marked_rise marks)

pub returns-clause-same : goal.returns-clause-same
returns-clause-same c =
    let marks = c.self.inside.is_found.items in
    let all : c.loop-number.number ≡ length marks = omega (arith, c.loop-number-test.false, c.loop-number.auto.number-end, c.len-number-end.ensures, c.self.inside.is_found.ok.0) in
    let is = marked_all marks c.loop-number.numbers.items c.loop-number.number all c.loop-number.invariant in
    let view : c.args.self.numbers ≡ c.self.inside.numbers.items = sym (ap (λ (f : Found). f.numbers) c.self.view_is) in
    λ n. rw view (subst (λ (l : List ℕ). Contains c.self.inside.numbers.items n ↔ Contains l n) (sym is) (marked_same marks c.self.inside.numbers.items c.self.invariant n))
