-- Numbers that are in two lists.
use Rattle.std.proofs.Common.{◌≡◌, ℕ, suc, ◌<◌, ◌≤◌, List, length, get_or, refl, sym, ap, inl, inr, arith, All, eqb, Option, Some, None}
use Rattle.std.specs.Prelude.{Contains, Result, Ok, Err, IsSome, Vec}
use Rattle.std.specs.declared.alloc.Global.{Global}
use Rattle.std.specs.List.{filter}
use Rattle.std.specs.List.Sorted.{IsBinarySearchResult, IsStrictlyIncreasing}
use Rattle.std.specs.Ordering.{nat_cmp}
use Rattle.std.specs.Result.{is_ok}
use Rattle.std.proofs.lemmas.Bool.{cases_eq, cases_lt, eq-eqb, ne_eqb}
use Rattle.std.proofs.lemmas.List.{get_or_default, get_or_past}
use Rattle.std.proofs.lemmas.List.Elements.{All-contains_itself}
use Rattle.std.proofs.lemmas.List.Folds.{list_any_at, list_any_none}
use Rattle.std.proofs.lemmas.List.Kept.{AllPairs-from_increasing, IsStrictlyIncreasing-filter}
use Rattle.std.proofs.lemmas.List.Sorted.{searched}
use Rattle.sw_graph.specs.Reached.{IsListing}
use Rattle.sw_graph.specs.Rows.{Leads}
use Rattle.sw_graph.specs.Walks.{holds}
use Rattle.sw_graph.proofs.Numbers.{Contains-from_holds}
use Rattle.sw_graph.proofs.Listed.{row_member}
use Rattle.sw_graph.specs.Searches.{IsLeastOf, steps_to}
use Rattle.sw_graph.specs.Shortest.{IsFewest}
use Rattle.sw_graph.proofs.Adding.{none_some}
use Rattle.sw_graph.proofs.Chains.{chain_first}
use Rattle.sw_graph.proofs.Searching.{Searching}
use Rattle.sw_graph.proofs.Marked.{holds-from_Contains}
use Rattle.sw_graph.proofs.Peels.{kept, kept_from}

-- what a search in rising numbers tells
pub among : (xs : List ℕ) (x : ℕ) (r : Result ℕ ℕ) → IsStrictlyIncreasing xs → IsBinarySearchResult (λ y. nat_cmp y x) xs r → is_ok r ≡ holds xs x
among xs x (Ok i) rising h =
    let s = searched xs x (Ok i) h (rises xs rising) in
    sym (list_any_at (λ m. eqb m x) xs i 0 s.0 (eq-eqb (get_or xs i 0) x s.1))
  where
    rises : (ys : List ℕ) → IsStrictlyIncreasing ys → (i k : ℕ) → i ≤ k → k < length ys → get_or ys i 0 ≤ get_or ys k 0
    rises ys up i k le lt = elim (cases_eq i k) [ inl e ↦ (let a : get_or ys i 0 ≡ get_or ys k 0 = ap (λ n. get_or ys n 0) e in omega arith) | inr ne ↦ (let a = AllPairs-from_increasing ys up i k 0 (omega arith) lt in omega arith) ]
among xs x (Err i) rising h =
    let s = searched xs x (Err i) h (rises xs rising) in
    sym (list_any_none (λ m. eqb m x) xs (λ k d lt. let e : get_or xs k d ≡ get_or xs k 0 = get_or_default xs k d 0 lt in elim (cases_lt k i) [
      | inl less ↦ (let a = s.1 k less in ne_eqb (get_or xs k d) x (λ q. omega arith))
      | inr past ↦ (let a = s.2 k past lt in ne_eqb (get_or xs k d) x (λ q. omega arith))
    ]))
  where
    rises : (ys : List ℕ) → IsStrictlyIncreasing ys → (i k : ℕ) → i ≤ k → k < length ys → get_or ys i 0 ≤ get_or ys k 0
    rises ys up i k le lt = elim (cases_eq i k) [ inl e ↦ (let a : get_or ys i 0 ≡ get_or ys k 0 = ap (λ n. get_or ys n 0) e in omega arith) | inr ne ↦ (let a = AllPairs-from_increasing ys up i k 0 (omega arith) lt in omega arith) ]

pub both_listing : (P Q : ℕ → Type 0) (ahead back : List ℕ) → IsListing P ahead → IsListing Q back → IsListing (λ d. P d × Q d) (filter (holds back) ahead)
both_listing P Q ahead back a b = record {
  rising = IsStrictlyIncreasing-filter (holds back) ahead a.rising;
  member = λ d. (
    λ h. let f = kept_from (holds back) ahead d h in ((a.member d).0 f.0, (b.member d).0 (Contains-from_holds back d f.1)),
    λ h. kept (holds back) ahead d ((a.member d).1 h.0) (holds-from_Contains back d ((b.member d).1 h.1)),
  );
}

-- ---- small facts of searches

pub level_inside : (dep : ℕ → ℕ → Type 0) (start count n : ℕ) (steps : List (Option ℕ)) (level : List ℕ) → Searching dep start count steps level → length steps ≡ n → All (λ d. d < n) level
level_inside dep start count n steps level s size = λ k d lt.
    let x : ℕ = get_or level k d in
    elim (cases_lt x n) [ inl less ↦ less | inr past ↦ absurd (none_some (steps_to steps x) count (get_or_past steps x None (omega arith)) (s.at x (All-contains_itself level k d lt))) ]

pub least_some : (ds : List ℕ) (P : ℕ → Type 0) (o : Option ℕ) (d : ℕ) → IsLeastOf ds P o → Contains ds d → P d → IsSome o
least_some ds P None d h k p = absurd (h d k p)
least_some ds P (Some c) d h k p = refl

pub fewest_inside : (rows : List (Vec ℕ Global)) (c d n : ℕ) → IsFewest (Leads rows) c d (suc n) → c < length rows
fewest_inside rows c d n f = let r = chain_first (Leads rows) n c d f.leads in row_member rows c r.0 r.1
