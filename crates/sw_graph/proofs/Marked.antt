-- The numbers of the marks that are set.
use Rattle.std.proofs.Common.{◌≡◌, ℕ, ◌+◌, ◌-◌, ◌<◌, ◌↔◌, Bool, true, false, List, [], ◌∷◌, ◌++◌, filter, length, get_or, set, not, inl, inr, refl, sym, ap, ◌∙◌, arith, eqb, ◌||◌, get_or-set_same, get_or-set_other, length-set}
use Rattle.std.specs.Prelude.{Contains, count_by, slice_index_or}
use Rattle.std.specs.List.{range_with_len}
use Rattle.std.specs.List.Sorted.{IsStrictlyIncreasing}
use Rattle.std.proofs.lemmas.Bool.{cases_eq, cases_lt, eq-eqb, false≢true, ne_eqb}
use Rattle.std.proofs.lemmas.List.{append-nil, append_assoc, get_or_default, get_or_append_left, get_or-append_right, length_push}
use Rattle.std.proofs.lemmas.List.Sums.{sum_by-set}
use Rattle.std.proofs.lemmas.List.Elements.{All-contains, All-push, filter-append}
use Rattle.std.proofs.lemmas.List.Folds.{list_any-append, list_any_at}
use Rattle.std.proofs.lemmas.List.FromFn.{get_or-range_with_len, length-range_with_len}
use Rattle.std.proofs.lemmas.List.Kept.{IsStrictlyIncreasing-filter}
use Rattle.sw_graph.specs.Walks.{IsWalk, holds, marked}
use Rattle.sw_graph.proofs.Counts.{flag}
use Rattle.sw_graph.proofs.Numbers.{Contains-from_holds}
use Rattle.sw_graph.proofs.Peels.{kept, kept_from}
use Rattle.sw_graph.proofs.Ranges.{range_more}

-- one number more
pub marked_more : (test : ℕ → Bool) (n : ℕ) → filter test (range_with_len 0 (n + 1)) ≡ filter test (range_with_len 0 n) ++ filter test (n ∷ [])
marked_more test n = ap (filter test) (range_more n) ∙ filter-append test (range_with_len 0 n) (n ∷ [])

-- numbers to which the next one is added, or left out
module _ (test : ℕ → Bool) (n : ℕ) (old now after : List ℕ) where
  pub marked_kept : test n ≡ true → now ≡ old ++ filter test (range_with_len 0 n) → after ≡ now ++ n ∷ [] → after ≡ old ++ filter test (range_with_len 0 (n + 1))
  marked_kept passes is after_is =
      let one : filter test (n ∷ []) ≡ n ∷ [] = rw passes refl in
      after_is ∙ ap (λ (l : List ℕ). l ++ n ∷ []) is ∙ append_assoc old (filter test (range_with_len 0 n)) (n ∷ []) ∙ ap (λ (l : List ℕ). old ++ l) (ap (λ (l : List ℕ). filter test (range_with_len 0 n) ++ l) (sym one) ∙ sym (marked_more test n))

  pub marked_left : test n ≡ false → now ≡ old ++ filter test (range_with_len 0 n) → after ≡ now → after ≡ old ++ filter test (range_with_len 0 (n + 1))
  marked_left fails is after_is =
      let none : filter test (n ∷ []) ≡ [] = rw fails refl in
      after_is ∙ is ∙ ap (λ (l : List ℕ). old ++ l) (sym (append-nil (filter test (range_with_len 0 n))) ∙ ap (λ (l : List ℕ). filter test (range_with_len 0 n) ++ l) (sym none) ∙ sym (marked_more test n))

pub marked_all : (marks : List Bool) (now : List ℕ) (n : ℕ) → n ≡ length marks → now ≡ filter (λ k. slice_index_or marks k false) (range_with_len 0 n) → now ≡ marked marks
marked_all marks now n all is = is ∙ ap (λ k. filter (λ m. slice_index_or marks m false) (range_with_len 0 k)) all

range_rises : (n : ℕ) → IsStrictlyIncreasing (range_with_len 0 n)
range_rises n k lt =
    let short : k + 1 < n = omega (arith, length-range_with_len 0 n) in
    rw (get_or-range_with_len 0 n k 0 (omega arith), get_or-range_with_len 0 n (k + 1) 0 short) (omega arith)

pub marked_rise : (marks : List Bool) → IsStrictlyIncreasing (marked marks)
marked_rise marks = IsStrictlyIncreasing-filter (λ n. slice_index_or marks n false) (range_with_len 0 (length marks)) (range_rises (length marks))

pub in_range : (n x : ℕ) → x < n → Contains (range_with_len 0 n) x
in_range n x lt = let size = length-range_with_len 0 n in (x, omega arith, get_or-range_with_len 0 n x x lt ∙ omega arith)

pub from_range : (n x : ℕ) → Contains (range_with_len 0 n) x → x < n
from_range n x h =
    let size = length-range_with_len 0 n in
    let lt = h.1 in
    let at = get_or-range_with_len 0 n h.0 x (omega arith) in
    let here = h.2 in
    omega arith

pub holds-from_Contains : (xs : List ℕ) (n : ℕ) → Contains xs n → holds xs n ≡ true
holds-from_Contains xs n h = list_any_at (λ m. eqb m n) xs h.0 n h.1 (eq-eqb (get_or xs h.0 n) n h.2)

-- the marks of a walk say which numbers it has
pub marked_same : (marks : List Bool) (numbers : List ℕ) → IsWalk marks numbers → (n : ℕ) → Contains numbers n ↔ Contains (marked marks) n
marked_same marks numbers w n = (
  λ h.
      let lt : n < length marks = All-contains (λ k. k < length marks) numbers n w.below h in
      kept (λ k. slice_index_or marks k false) (range_with_len 0 (length marks)) n (in_range (length marks) n lt) (w.marked n lt ∙ holds-from_Contains numbers n h),
  λ h.
      let k = kept_from (λ k. slice_index_or marks k false) (range_with_len 0 (length marks)) n h in
      Contains-from_holds numbers n (sym (w.marked n (from_range (length marks) n k.0)) ∙ k.1),
)

-- ---- one number more

or_none : (b : Bool) → (b || false) ≡ b
or_none true = refl
or_none false = refl

or_all : (b : Bool) → (b || true) ≡ true
or_all true = refl
or_all false = refl

holds_push : (numbers : List ℕ) (n m : ℕ) (b : Bool) → eqb n m ≡ b → holds (numbers ++ n ∷ []) m ≡ (holds numbers m || b)
holds_push numbers n m b e = list_any-append (λ (k : ℕ). eqb k m) numbers (n ∷ []) ∙ ap (λ x. holds numbers m || x) (or_none (eqb n m) ∙ e)

-- a new number is marked, and stands last
pub walk_more : (marks : List Bool) (numbers : List ℕ) (n : ℕ) (b : Bool) → IsWalk marks numbers → n < length marks → b ≡ get_or marks n b → b ≡ false → IsWalk (set marks n true) (numbers ++ n ∷ [])
walk_more marks numbers n b w lt at is = record {
  marked = λ m inside. elim (cases_eq m n) [
    | inl same ↦ ap (λ k. get_or (set marks n true) k false) same ∙ get_or-set_same marks n true false lt ∙ sym (holds_push numbers n m true (eq-eqb n m (sym same)) ∙ or_all (holds numbers m))
    | inr ne ↦ get_or-set_other marks n m true false ne ∙ w.marked m (omega (arith, size)) ∙ sym (holds_push numbers n m false (ne_eqb n m (λ e. ne (sym e))) ∙ or_none (holds numbers m))
  ];
  below = All-push (λ k. k < length (set marks n true)) numbers n (λ k d l. let old = w.below k d l in omega (arith, size)) (omega (arith, size));
  once = λ i j d before l. elim (cases_lt j (length numbers)) [
    | inl old ↦ λ same. w.once i j d before old (sym (get_or_append_left numbers (n ∷ []) d i (omega arith)) ∙ same ∙ get_or_append_left numbers (n ∷ []) d j old)
    | inr last ↦ λ same.
        let at_end : j ≡ length numbers = omega (arith, long) in
        let first : length numbers - length numbers ≡ 0 = omega arith in
        let here : get_or (numbers ++ n ∷ []) j d ≡ n = ap (λ k. get_or (numbers ++ n ∷ []) k d) at_end ∙ get_or-append_right numbers (n ∷ []) (length numbers) (length numbers) d refl (omega arith) ∙ ap (λ k. get_or (n ∷ []) k d) first in
        let inside : i < length numbers = omega (arith, long) in
        let found : get_or numbers i d ≡ n = sym (get_or_append_left numbers (n ∷ []) d i inside) ∙ same ∙ here in
        false≢true (sym new ∙ list_any_at (λ (k : ℕ). eqb k n) numbers i d inside (eq-eqb (get_or numbers i d) n found))
  ];
  counted = omega (arith, h, one, size, long, w.counted);
}
  where
    size : length (set marks n true) ≡ length marks
    size = length-set marks n true

    long : length (numbers ++ n ∷ []) ≡ length numbers + 1
    long = length_push numbers n

    fresh : get_or marks n false ≡ false
    fresh = get_or_default marks n false b lt ∙ sym at ∙ is

    new : holds numbers n ≡ false
    new = sym (w.marked n lt) ∙ fresh

    h : count_by not (set marks n true) + flag (not (get_or marks n false)) ≡ count_by not marks + 0
    h = sum_by-set (λ (x : Bool). flag (not x)) marks n true false lt

    one : flag (not (get_or marks n false)) ≡ 1
    one = rw fresh refl
