-- The pairs that rows list.
use Rattle.std.proofs.Common.{◌≡◌, ◌≢◌, ℕ, zero, suc, ◌+◌, ◌<◌, ◌≤◌, List, [], ◌∷◌, ◌++◌, map, length, get_or, Contains, Vec, Global, refl, sym, ap, ◌∙◌, subst, inl, inr, arith, All}
use Rattle.std.specs.Prelude.{AllPairs, sum}
use Rattle.std.specs.List.{AllByRecursion}
use Rattle.std.proofs.lemmas.Bool.{cases_lt}
use Rattle.std.proofs.lemmas.List.{length-append, length-map}
use Rattle.std.proofs.lemmas.List.Sums.{sum_by-append}
use Rattle.std.proofs.lemmas.List.Elements.{Contains-append_left, Contains-append_right, Contains-append_cases, Contains-get_or}
use Rattle.sw_flow.proofs.Listed.{Contains-from_map, Contains-head, Contains-later, Contains-map}
use Rattle.sw_graph.specs.Rows.{row}
use Rattle.sw_graph.proofs.Pigeons.{pigeons}

-- ---- no element twice

module _ {X : Type 0} where
  abbrev pub Once : List X → Type 0
  Once [] = Unit {0}
  Once (x ∷ xs) = (Contains xs x → ⊥) × Once xs

  pub once_pairs : (xs : List X) → Once xs → AllPairs (λ x y. x ≢ y) xs
  once_pairs [] h i j d ij lt = absurd (omega arith)
  once_pairs (x ∷ xs) h zero zero d ij lt = absurd (omega arith)
  once_pairs (x ∷ xs) h zero (suc j) d ij lt = λ same. h.0 (subst (λ (y : X). Contains xs y) (sym same) (Contains-get_or xs j d (omega arith)))
  once_pairs (x ∷ xs) h (suc i) zero d ij lt = absurd (omega arith)
  once_pairs (x ∷ xs) h (suc i) (suc j) d ij lt = once_pairs xs h.1 i j d (omega arith) (omega arith)

  pub pairs_once : (xs : List X) → AllPairs (λ x y. x ≢ y) xs → Once xs
  pairs_once [] h = tt
  pairs_once (x ∷ xs) h = (
    λ m. h 0 (suc m.0) x (omega arith) (omega (arith, m.1)) (sym m.2),
    pairs_once xs (λ i j d ij lt. h (suc i) (suc j) d (omega arith) (omega arith)),
  )

  pub once_append : (xs ys : List X) → Once xs → Once ys → ((x : X) → Contains xs x → Contains ys x → ⊥) → Once (xs ++ ys)
  once_append [] ys h k apart = k
  once_append (x ∷ xs) ys h k apart = (
    λ m. elim (Contains-append_cases xs ys x m) [ inl left ↦ h.0 left | inr right ↦ apart x (Contains-head x xs) right ],
    once_append xs ys h.1 k (λ y l r. apart y (Contains-later x y xs l) r),
  )

once_map : {X Y : Type 0} (f : X → Y) → ((x y : X) → f x ≡ f y → x ≡ y) → (xs : List X) → Once xs → Once (map f xs)
once_map f inj [] h = tt
once_map {X = X} f inj (x ∷ xs) h = (
  λ m. let r = Contains-from_map f xs (f x) m in h.0 (subst (λ (y : X). Contains xs y) (inj r.0 x r.2) r.1),
  once_map f inj xs h.1,
)

-- ---- numbers below n, none twice, are at most n

pub few_numbers : (n : ℕ) (xs : List ℕ) → All (λ x. x < n) xs → AllPairs (λ x y. x ≢ y) xs → length xs ≤ n
few_numbers n xs below once = elim (cases_lt n (length xs)) [
  | inr few ↦ few
  | inl many ↦
      let r = pigeons n (λ k. get_or xs k 0) (λ k le. below k 0 (omega arith)) in
      let i_below = r.2 in
      let j_within = r.3 in
      absurd (once r.0 r.1 0 r.2 (omega arith) r.4)
]

-- ---- the pairs

-- of rows that are numbered from c on
abbrev pub pairs_from : ℕ → List (Vec ℕ Global) → List (ℕ × ℕ)
pairs_from c [] = []
pairs_from c (v ∷ rows) = map (λ e. (c, e)) v.items ++ pairs_from (suc c) rows

pub count_pairs : (c : ℕ) (rows : List (Vec ℕ Global)) → sum (map (λ (v : Vec ℕ Global). length v.items) rows) ≡ length (pairs_from c rows)
count_pairs c [] = refl
count_pairs c (v ∷ rows) =
    let all : List ℕ = map (λ (w : Vec ℕ Global). length w.items) rows in
    let parted = sum_by-append (λ (x : ℕ). x) (length v.items ∷ []) all in
    let head : sum (length v.items ∷ all) ≡ length v.items + sum all = omega (arith, parted) in
    let here : length (map (λ (e : ℕ). (c, e)) v.items) ≡ length v.items = length-map v.items (λ (e : ℕ). (c, e)) in
    let rest : sum all ≡ length (pairs_from (suc c) rows) = count_pairs (suc c) rows in
    let joined : length (pairs_from c (v ∷ rows)) ≡ length (map (λ (e : ℕ). (c, e)) v.items) + length (pairs_from (suc c) rows) = length-append (map (λ (e : ℕ). (c, e)) v.items) (pairs_from (suc c) rows) in
    head ∙ (λ i. sym here i + rest i) ∙ sym joined

-- a pair is listed by the row of its first number
pub listed_pair : (c : ℕ) (rows : List (Vec ℕ Global)) (i e : ℕ) → Contains (row rows i) e → Contains (pairs_from c rows) (c + i, e)
listed_pair c [] i e m = absurd (omega (arith, m.1))
listed_pair c (v ∷ rows) zero e m =
    let at : c ≡ c + 0 = omega arith in
    subst (λ (x : ℕ). Contains (pairs_from c (v ∷ rows)) (x, e)) at (Contains-append_left (map (λ x. (c, x)) v.items) (pairs_from (suc c) rows) (c, e) (Contains-map (λ x. (c, x)) v.items e m))
listed_pair c (v ∷ rows) (suc i) e m =
    let at : suc c + i ≡ c + suc i = omega arith in
    subst (λ (x : ℕ). Contains (pairs_from c (v ∷ rows)) (x, e)) at (Contains-append_right (map (λ x. (c, x)) v.items) (pairs_from (suc c) rows) (suc c + i, e) (listed_pair (suc c) rows i e m))

-- the row that lists a pair
pub record IsInRow (c : ℕ) (rows : List (Vec ℕ Global)) (p : ℕ × ℕ) : Type 0 where
  pub index : ℕ
  pub first : p.0 ≡ c + index
  pub second : Contains (row rows index) p.1

pub pair_listed : (c : ℕ) (rows : List (Vec ℕ Global)) (p : ℕ × ℕ) → Contains (pairs_from c rows) p → IsInRow c rows p
pair_listed c [] p m = absurd (omega (arith, m.1))
pair_listed c (v ∷ rows) p m = elim (Contains-append_cases (map (λ x. (c, x)) v.items) (pairs_from (suc c) rows) p m) [
  | inl here ↦
      let r = Contains-from_map (λ x. (c, x)) v.items p here in
      let first : c ≡ p.0 = ap (λ (q : ℕ × ℕ). q.0) r.2 in
      let second : r.0 ≡ p.1 = ap (λ (q : ℕ × ℕ). q.1) r.2 in
      record { index = 0; first = omega arith; second = subst (λ (x : ℕ). Contains v.items x) second r.1 }
  | inr later ↦
      let r = pair_listed (suc c) rows p later in
      let first = r.first in
      record { index = suc r.index; first = omega arith; second = r.second }
]

pub once_listed : (c : ℕ) (rows : List (Vec ℕ Global)) → AllByRecursion (λ (v : Vec ℕ Global). AllPairs (λ x y. x ≢ y) v.items) rows → Once (pairs_from c rows)
once_listed c [] h = tt
once_listed c (v ∷ rows) h =
    once_append (map (λ x. (c, x)) v.items) (pairs_from (suc c) rows) (once_map (λ x. (c, x)) (λ x y e. ap (λ (q : ℕ × ℕ). q.1) e) v.items (pairs_once v.items h.0)) (once_listed (suc c) rows h.1)
    (λ p l r.
    let here = Contains-from_map (λ x. (c, x)) v.items p l in
    let same : c ≡ p.0 = ap (λ (q : ℕ × ℕ). q.0) here.2 in
    let later = (pair_listed (suc c) rows p r).first in
    omega arith)
