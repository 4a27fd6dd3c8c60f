-- Elements that a loop counts.
use Rattle.std.proofs.Common.{Bool, List, ap, arith, count_by, false, get_or, length, sym, take, true, ℕ, ◌+◌, ◌<◌, ◌≤◌, ◌∙◌, ◌≡◌}
use Rattle.std.proofs.lemmas.Bool.{eq-eqb, ne_eqb}
use Rattle.std.proofs.lemmas.List.Sums.{count_by_more_no, count_by_more_yes}
use Rattle.std.specs.Prelude.{◌==◌}

-- so many of the elements before element i pass the test
pub record AreCounted {A : Type 0} (test : A → Bool) (xs : List A) (i n : ℕ) : Type 0 where
  pub count : n ≡ count_by test (take i xs)
  pub few : n ≤ i

-- element i, whose key is not the one that is asked for, or is
module _ {A : Type 0} (key : A → ℕ) (k : ℕ) (xs : List A) (i : ℕ) (d : A) (n here asked : ℕ) (within : i < length xs) (so_far : AreCounted (λ x. key x == k) xs i n) (is : here ≡ key (get_or xs i d))
    (asks : asked ≡ k) where
  pub none_more : (here ≡ asked → ⊥) → AreCounted (λ x. key x == k) xs (i + 1) n
  none_more other =
      let no : (key (get_or xs i d) == k) ≡ false = ne_eqb (key (get_or xs i d)) k (λ same. other (is ∙ same ∙ sym asks)) in
      let few = so_far.few in
      record { count = so_far.count ∙ sym (count_by_more_no (λ x. key x == k) xs i d within no); few = omega (arith, few) }

  pub one_more : here ≡ asked → AreCounted (λ x. key x == k) xs (i + 1) (n + 1)
  one_more same =
      let yes : (key (get_or xs i d) == k) ≡ true = eq-eqb (key (get_or xs i d)) k (sym is ∙ same ∙ asks) in
      let few = so_far.few in
      record { count = ap (λ m. m + 1) so_far.count ∙ sym (count_by_more_yes (λ x. key x == k) xs i d within yes); few = omega (arith, few) }
