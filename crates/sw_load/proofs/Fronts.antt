-- What a history begins is no more than the load.
use Rattle.std.proofs.Common.{◌≡◌, ◌≤◌, ◌<◌, ◌+◌, ◌*◌, ◌∷◌, [], ℕ, zero, suc, Bool, true, false, List, length, filter, refl, sym, ap, ◌∙◌, arith, cond, eqb, ltb}
use Rattle.std.specs.Prelude.{nat_eq, sum_by}
use Rattle.std.proofs.Math.Nat.{mul-le-mul_left}
use Rattle.std.proofs.lemmas.Bool.Decides.{nat_tests}
use Rattle.std.proofs.lemmas.List.Sums.{sum_by-append, sum_by-cons}
use Rattle.sw_load.specs.History.{IsFront}
use Rattle.sw_load.specs.Limit.{AcceptedHistoriesEnd, HistoriesEnd}
use Rattle.sw_machine.specs.Begun.{Begun, IsBoundedByLoad, beginnings, length_with_reply}
use Rattle.sw_machine.specs.Network.{Network}
use Rattle.sw_machine.proofs.Free.{is_deadlock_free_within_limits}
use Rattle.sw_machine.proofs.Load.{sum_le, sum_same, sum_add}

sum-filter : {X : Type 0} (f : X → ℕ) (p : X → Bool) (xs : List X) → sum_by f (filter p xs) ≡ sum_by (λ x. cond (p x) (f x) 0) xs
sum-filter f p [] = refl
sum-filter {X} f p (x ∷ xs) =
    let later = sum-filter f p xs in
    let c = sum_by-cons (λ x. cond (p x) (f x) 0) x xs in
    by (p x) later ∙ sym c
  where
    by : (b : Bool) → sum_by f (filter p xs) ≡ sum_by (λ x. cond (p x) (f x) 0) xs → sum_by f (cond b (x ∷ filter p xs) (filter p xs)) ≡ cond b (f x) 0 + sum_by (λ x. cond (p x) (f x) 0) xs
    by true h = let a = sum_by-cons f x (filter p xs) in omega arith
    by false h = omega arith

module _ {X : Type 0} (key : X → ℕ) (f : X → ℕ) where
  -- the terms whose key is below n
  below : ℕ → List X → ℕ
  below n xs = sum_by (λ x. cond (ltb (key x) n) (f x) 0) xs

  -- those whose key is n
  here : ℕ → List X → ℕ
  here n xs = sum_by f (filter (λ x. nat_eq (key x) n) xs)

  one : (k n w : ℕ) → cond (ltb k (n + 1)) w 0 ≡ cond (ltb k n) w 0 + cond (eqb k n) w 0
  one k n w = grind (arith, nat_tests)

  below-more : (n : ℕ) (xs : List X) → below (n + 1) xs ≡ below n xs + here n xs
  unfolding below here
  below-more n xs =
      sum_same (λ x. cond (ltb (key x) (n + 1)) (f x) 0) (λ x. cond (ltb (key x) n) (f x) 0 + cond (eqb (key x) n) (f x) 0) xs (λ x. one (key x) n (f x))
      ∙ sum_add (λ x. cond (ltb (key x) n) (f x) 0) (λ x. cond (eqb (key x) n) (f x) 0) xs
      ∙ ap (λ (m : ℕ). below n xs + m) (sym (sum-filter f (λ x. nat_eq (key x) n) xs))

  none : (xs : List X) → below 0 xs ≡ 0
  unfolding below
  none [] = refl
  none (x ∷ xs) = let r = none xs in let c = sum_by-cons (λ (x : X). cond (ltb (key x) 0) (f x) 0) x xs in grind (arith, nat_tests)

  below-le : (xs ys : List X) → ((n : ℕ) → here n xs ≤ here n ys) → (n : ℕ) → below n xs ≤ below n ys
  below-le xs ys h zero = let a = none xs in let b = none ys in omega arith
  below-le xs ys h (suc n) =
      let r = below-le xs ys h n in
      let k = h n in
      let a = below-more n xs in
      let b = below-more n ys in
      let e : n + 1 ≡ suc n = omega arith in
      rw (sym e) (omega arith)

  all-below : (n : ℕ) (xs : List X) → sum_by key xs < n → below n xs ≡ sum_by f xs
  unfolding below
  all-below n [] lt = refl
  all-below n (x ∷ xs) lt =
      let k = sum_by-cons key x xs in
      let r = all-below n xs (omega arith) in
      let a = sum_by-cons f x xs in
      let c = sum_by-cons (λ (x : X). cond (ltb (key x) n) (f x) 0) x xs in
      let small : key x < n = omega arith in
      let at : cond (ltb (key x) n) (f x) 0 ≡ f x = grind (arith, nat_tests) in
      omega arith

  below-most : (n : ℕ) (xs : List X) → below n xs ≤ sum_by f xs
  unfolding below
  below-most n xs = sum_le (λ x. cond (ltb (key x) n) (f x) 0) f xs (λ x. by (ltb (key x) n) (f x))
    where
      by : (b : Bool) (w : ℕ) → cond b w 0 ≤ w
      by true w = omega arith
      by false w = omega arith

  -- what is no more for each key is no more
  pub no-more : (xs ys : List X) → ((n : ℕ) → IsFront (filter (λ x. nat_eq (key x) n) xs) (filter (λ x. nat_eq (key x) n) ys)) → sum_by f xs ≤ sum_by f ys
  unfolding here
  no-more xs ys fronts =
      let each : (n : ℕ) → here n xs ≤ here n ys = λ n. let e = ap (λ (l : List X). sum_by f l) (fronts n).1 in let a = sum_by-append f (filter (λ x. nat_eq (key x) n) xs) (fronts n).0 in omega arith in
      let n = sum_by key xs + 1 in
      let a = all-below n xs (omega arith) in
      let b = below-le xs ys each n in
      let c = below-most n ys in
      omega arith

length-sum : {X : Type 0} (xs : List X) → sum_by (λ x. 1) xs ≡ length xs
length-sum [] = refl
length-sum (x ∷ xs) = let r = length-sum xs in let c = sum_by-cons (λ x. 1) x xs in omega arith

pub histories_end : (net : Network) → IsBoundedByLoad net → HistoriesEnd net
histories_end net bound packets steps s h =
    let from : Begun → ℕ = λ b. (net.flow b.flow).from in
    let begun = beginnings steps in
    let few = no-more from (λ b. 1) begun packets h.in_order in
    let short = no-more from (length_with_reply net) begun packets h.in_order in
    let a = length-sum begun in
    let b = length-sum packets in
    let product : net.channels * (14 + 5 * sum_by (length_with_reply net) begun) ≤ net.channels * (14 + 5 * sum_by (length_with_reply net) packets) = mul-le-mul_left net.channels (omega arith) in
    let all = bound steps s h.run in
    omega arith

pub accepted_histories_end : AcceptedHistoriesEnd
accepted_histories_end net cert ok acc = histories_end net (is_deadlock_free_within_limits net cert ok acc).bounded_by_load
