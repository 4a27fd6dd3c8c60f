-- What shares come to.
use Rattle.std.proofs.Common.{Bool, List, [], ap, arith, count_by, false, length, min, refl, suc, sum_by, sym, true, zero, ℕ, ◌++◌, ◌+◌, ◌-◌, ◌∙◌, ◌∷◌, ◌≡◌, ◌≤◌}
use Rattle.std.proofs.lemmas.Bool.Decides.{nat_tests}
use Rattle.std.proofs.lemmas.List.{flat_map_more}
use Rattle.std.proofs.lemmas.List.Sums.{sum_by-cons, sum_by-le-sum_by, sum_by_push}
use Rattle.std.specs.List.{flat_map, range_with_len}
use Rattle.std.specs.Prelude.{if◌then◌else◌, nat_lt}
use Rattle.sw_graph.proofs.Ranges.{range_more}
use Rattle.sw_machine.proofs.Load.{sum_add, sum_none}
use Rattle.sw_summary.specs.Items.{Item, different, is_same, share, shares, times}
use Rattle.sw_summary.specs.KeyCounts.{KeyCountView, found, key_counts, taken, taken_all}
use Rattle.sw_summary.specs.Laws.{common}
use Rattle.sw_summary.proofs.Different.{all_times, one_itself, split_at, sum_of, zeroed, zeroed_alike}
use Rattle.sw_summary.proofs.Same.{one, times_cons}
use Rattle.sw_summary.proofs.Taken.{taken_append}
use Rattle.sw_summary.proofs.Walk.{walk_is}

found_append : (xs ys : List Item) (ts : List KeyCountView) → found ts (xs ++ ys) ≡ found ts xs + found (taken_all ts xs) ys
found_append [] ys ts = omega arith
found_append (x ∷ xs) ys ts = let rest = found_append xs ys (taken x ts) in omega (arith, rest)

-- the shares of two lists, the second behind the first
shares_append : (came before xs ys : List Item) → shares came before (xs ++ ys) ≡ shares came before xs + shares came (before ++ xs) ys
shares_append came before xs ys =
    let ts : List KeyCountView = taken_all (key_counts came) before in
    let rest : found (taken_all ts xs) ys ≡ shares came (before ++ xs) ys = ap (λ us. found us ys) (sym (taken_append before xs (key_counts came))) ∙ walk_is came (before ++ xs) ys in
    sym (walk_is came before (xs ++ ys)) ∙ found_append xs ys ts ∙ (λ i. walk_is came before xs i + rest i)

-- of several lists, one behind the other
pub shares_sum : (came : List Item) (f : ℕ → List Item) (n : ℕ)
    → sum_by (λ k. shares came (flat_map f (range_with_len 0 k)) (f k)) (range_with_len 0 n) ≡ shares came [] (flat_map f (range_with_len 0 n))
shares_sum came f zero = refl
shares_sum came f (suc n) =
    let part : ℕ → ℕ = λ k. shares came (flat_map f (range_with_len 0 k)) (f k) in
    let next : suc n ≡ n + 1 = omega arith in
    let range : range_with_len 0 (suc n) ≡ range_with_len 0 n ++ n ∷ [] = ap (range_with_len 0) next ∙ range_more n in
    ap (sum_by part) range ∙ sum_by_push part (range_with_len 0 n) n ∙ ap (λ k. k + part n) (shares_sum came f n)
    ∙ sym (shares_append came [] (flat_map f (range_with_len 0 n)) (f n))
    ∙ ap (shares came []) (flat_map_more f [] (range_with_len 0 n) n ∙ ap (flat_map f) (sym range))

-- no more than there are
pub few_shares : (came before mine : List Item) → shares came before mine ≤ length mine
few_shares came before mine =
    let fewer = sum_by-le-sum_by (share came before mine) (λ p. times p mine) (different mine) (λ p. omega arith) in
    let all = all_times mine in
    omega (arith, fewer, all)

-- all, where enough came out
pub all_shares : (came before mine : List Item) → ((p : Item) → times p before + times p mine ≤ times p came) → shares came before mine ≡ length mine
all_shares came before mine enough =
    ap (λ (f : Item → ℕ). sum_by f (different mine)) (λ i p. whole p i) ∙ all_times mine
  where
    whole : (p : Item) → share came before mine p ≡ times p mine
    whole p = (let many = enough p in omega (arith, many))

pub shares_common : (came begun : List Item) → shares came [] begun ≡ common begun came
shares_common came begun = ap (λ (f : Item → ℕ). sum_by f (different begun)) (λ i p. min (times p begun) (all p i))
  where
    all : (p : Item) → times p came - times p [] ≡ times p came
    all p = omega arith

nothing : (b : Bool) (n : ℕ) → n ≡ 0 → (if b then n else 0) ≡ 0
nothing true n none = none
nothing false n none = refl

nothing_else : (b : Bool) (n : ℕ) → n ≡ 0 → (if b then 0 else n) ≡ 0
nothing_else true n none = refl
nothing_else false n none = none

module _ (begun : List Item) where
  abbrev is_begun : Item → Bool
  is_begun p = nat_lt 0 (times p begun)

  -- each one that came out is like one of those begun, or like none
  one_begun : (c : Item) → sum_of (λ p. if is_begun p then one p c else 0) begun ≡ (if is_begun c then 1 else 0)
  one_begun c =
      let f : Item → ℕ = λ p. if is_begun p then one p c else 0 in
      let zero : Item → ℕ = λ p. 0 in
      let part = split_at c begun f (λ none. ap (λ n. if nat_lt 0 n then one c c else 0) none) in
      let alike : zeroed c f ≡ zeroed c zero = zeroed_alike c f zero (λ p other. nothing (is_begun p) (one p c) other) in
      let none : sum_of (zeroed c f) begun ≡ 0 =
      ap (λ (g : Item → ℕ). sum_of g begun) alike ∙ ap (λ (g : Item → ℕ). sum_of g begun) (λ i p. nothing_else (is_same c p) 0 refl i) ∙ sum_none (different begun) in
      let here : f c ≡ (if is_begun c then 1 else 0) = ap (λ n. if is_begun c then n else 0) (one_itself c) in
      omega (arith, part, none, here)

  all_begun : (came : List Item) → sum_of (λ p. if is_begun p then times p came else 0) begun ≡ count_by is_begun came
  all_begun [] = ap (λ (g : Item → ℕ). sum_of g begun) (λ i p. nothing (is_begun p) 0 refl i) ∙ sum_none (different begun)
  all_begun (c ∷ cs) =
      let f : Item → ℕ = λ p. if is_begun p then one p c else 0 in
      let g : Item → ℕ = λ p. if is_begun p then times p cs else 0 in
      ap (λ (h : Item → ℕ). sum_of h begun) (λ i p. parted (is_begun p) p i) ∙ sum_add f g (different begun) ∙ (λ i. one_begun c i + all_begun cs i)
      ∙ sym (sum_by-cons (λ p. if is_begun p then 1 else 0) c cs)
    where
      parted : (b : Bool) (p : Item) → (if b then times p (c ∷ cs) else 0) ≡ (if b then one p c else 0) + (if b then times p cs else 0)
      parted true p = times_cons p c cs
      parted false p = refl

  -- those that came out and were begun, where none came out oftener than begun
  pub common_came : (came : List Item) → ((p : Item) → 1 ≤ times p begun → times p came ≤ times p begun) → common begun came ≡ count_by is_begun came
  common_came came few = ap (λ (g : Item → ℕ). sum_of g begun) (λ i p. least (times p begun) (times p came) (few p) i) ∙ all_begun came
    where
      least : (n m : ℕ) → (1 ≤ n → m ≤ n) → min n m ≡ (if nat_lt 0 n then m else 0)
      least zero m le = omega arith
      least (suc n) m le = (let less = le (omega arith) in grind (arith, nat_tests))
