-- The first place that passes, in one list after another.
use Rattle.std.proofs.Common.{◌≡◌, ℕ, suc, ◌+◌, ◌<◌, ◌≤◌, Bool, true, false, not, ◌||◌, cond, eqb, ltb, is_some, nat_lt, List, [], ◌∷◌, ◌++◌, length, Option, Some, None, option_map, refl, sym, ap, ◌∙◌, ◌⊎◌, inl, inr, arith, length-append, eq-eqb}
use Rattle.std.specs.Prelude.{position}
use Rattle.std.specs.List.{list_any, position_or_len}
use Rattle.std.proofs.lemmas.Bool.{cases_lt, lt-ltb, le-ltb, ne_eqb}
use Rattle.std.proofs.lemmas.List.Folds.{prefix_len-append}
use Rattle.std.proofs.lemmas.List.Sums.{prefix_len-le-length}
use Rattle.std.proofs.lemmas.List.Quantifiers.{position-Some}
use Rattle.sw_route.specs.Checked.{first_of}

at_back : (n b m : ℕ) → (b < m) ⊎ (m ≤ b) → cond (ltb (n + b) (n + m)) (Some (n + b)) None ≡ option_map (λ i. n + i) (cond (ltb b m) (Some b) None)
at_back n b m (inl lt) = rw (lt-ltb b m lt, lt-ltb (n + b) (n + m) (omega arith)) refl
at_back n b m (inr ge) = rw (le-ltb b m ge, le-ltb (n + b) (n + m) (omega arith)) refl

by_place : (a n b m : ℕ) → a ≤ n → (a < n) ⊎ (n ≤ a)
    → cond (ltb (cond (eqb a n) (n + b) a) (n + m)) (Some (cond (eqb a n) (n + b) a)) None ≡ first_of (cond (ltb a n) (Some a) None) (option_map (λ i. n + i) (cond (ltb b m) (Some b) None))
by_place a n b m le (inl lt) = rw (ne_eqb a n (λ e. omega (arith, e)), lt-ltb a (n + m) (omega arith), lt-ltb a n lt) refl
by_place a n b m le (inr ge) = let e : a ≡ n = omega arith in rw (e, eq-eqb n n refl, le-ltb n n (omega arith)) (at_back n b m (cases_lt b m))

pub position-append : {X : Type 0} (p : X → Bool) (xs ys : List X) → position p (xs ++ ys) ≡ first_of (position p xs) (option_map (λ i. length xs + i) (position p ys))
position-append p xs ys =
    rw (prefix_len-append (λ x. not (p x)) xs ys, length-append)
    (by_place (position_or_len p xs) (length xs) (position_or_len p ys) (length ys) (prefix_len-le-length (λ x. not (p x)) xs) (cases_lt (position_or_len p xs) (length xs)))

-- of two lists, what is found in the first
front_none : (o q : Option ℕ) → first_of o q ≡ None → o ≡ None
front_none None q e = refl
front_none (Some x) q e = absurd cc

front_some : (n i : ℕ) (o q : Option ℕ) → first_of o (option_map (λ j. n + j) q) ≡ Some i → i < n → o ≡ Some i
front_some n i (Some x) q e lt = e
front_some n i None (Some x) e lt = let same : n + x ≡ i = cc in absurd (omega arith)
front_some n i None None e lt = absurd cc

front_past : (n i : ℕ) (o q : Option ℕ) → ((j : ℕ) → o ≡ Some j → j < n) → first_of o q ≡ Some i → n ≤ i → o ≡ None
front_past n i None q within e le = refl
front_past n i (Some x) q within e le = let same : x ≡ i = cc in let lt : x < n = within x refl in absurd (omega arith)

module _ {X : Type 0} (p : X → Bool) (xs ys : List X) where
  pub position-none : position p (xs ++ ys) ≡ None → position p xs ≡ None
  position-none e = front_none (position p xs) (option_map (λ i. length xs + i) (position p ys)) (sym (position-append p xs ys) ∙ e)

  pub position-in_first : (i : ℕ) → position p (xs ++ ys) ≡ Some i → i < length xs → position p xs ≡ Some i
  position-in_first i e lt = front_some (length xs) i (position p xs) (position p ys) (sym (position-append p xs ys) ∙ e) lt

  pub position-in_second : (i : ℕ) → X → position p (xs ++ ys) ≡ Some i → length xs ≤ i → position p xs ≡ None
  position-in_second i d e le =
      front_past (length xs) i (position p xs) (option_map (λ j. length xs + j) (position p ys)) (λ j found. (position-Some p xs j d found).0) (sym (position-append p xs ys) ∙ e) le

-- one is found exactly where one passes
pub position-any : {X : Type 0} (p : X → Bool) (xs : List X) → is_some (position p xs) ≡ list_any p xs
position-any p [] = refl
position-any p (x ∷ xs) = first (p x) (position-any p xs)
  where
    k : ℕ
    k = position_or_len p xs

    less : nat_lt (1 + k) (suc (length xs)) ≡ nat_lt k (length xs)
    less = elim (cases_lt k (length xs)) [
      | inl lt ↦ lt-ltb (1 + k) (suc (length xs)) (omega (arith, lt)) ∙ sym (lt-ltb k (length xs) lt)
      | inr past ↦ le-ltb (1 + k) (suc (length xs)) (omega (arith, past)) ∙ sym (le-ltb k (length xs) past)
    ]

    later : (b : Bool) → is_some (cond b (Some (1 + k)) None) ≡ is_some (cond b (Some k) None)
    later true = refl
    later false = refl

    first : (b : Bool) → is_some (position p xs) ≡ list_any p xs
        → is_some (cond (nat_lt (cond (not b) (1 + k) 0) (suc (length xs))) (Some (cond (not b) (1 + k) 0)) None) ≡ (b || list_any p xs)
    first true rest = ap (λ t. is_some {T = ℕ} (cond t (Some 0) None)) (lt-ltb 0 (suc (length xs)) (omega arith))
    first false rest = ap (λ t. is_some {T = ℕ} (cond t (Some (1 + k)) None)) less ∙ later (nat_lt k (length xs)) ∙ rest
