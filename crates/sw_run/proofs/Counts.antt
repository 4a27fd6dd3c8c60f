-- Counts over lists that have the same elements for each key.
use Rattle.std.proofs.Common.{Bool, List, [], ap, arith, cond, count_by, eq-eqb, false, filter, nat_eq, ne_eqb, refl, subst, sym, true, ℕ, ⊎_elim, ◌++◌, ◌+◌, ◌∙◌, ◌∷◌, ◌≡◌}
use Rattle.std.proofs.lemmas.Bool.{cases_eq}
use Rattle.std.proofs.lemmas.List.Elements.{filter-append}
use Rattle.std.specs.Prelude.{◌&&◌}
use Rattle.sw_machine.proofs.Balance.{count_append, count_cons}

-- what passes both tests is among what passes the first
pub count_filter : {X : Type 0} (p q : X → Bool) (xs : List X) → count_by (λ x. p x && q x) (filter p xs) ≡ count_by (λ x. p x && q x) xs
count_filter p q [] = refl
count_filter {X} p q (x ∷ xs) = by (p x) refl (count_filter p q xs) (count_cons (λ x. p x && q x) x xs)
  where
    both : X → Bool
    both x = p x && q x

    by : (b : Bool) → p x ≡ b → count_by (λ x. p x && q x) (filter p xs) ≡ count_by (λ x. p x && q x) xs
        → count_by (λ x. p x && q x) (x ∷ xs) ≡ count_by (λ x. p x && q x) (x ∷ []) + count_by (λ x. p x && q x) xs
        → count_by (λ x. p x && q x) (cond b (x ∷ filter p xs) (filter p xs)) ≡ count_by (λ x. p x && q x) (x ∷ xs)
    by true is r c = let d = count_cons (λ x. p x && q x) x (filter p xs) in omega arith
    by false is r c = let none : count_by (λ x. p x && q x) (x ∷ []) ≡ 0 = ap (λ b. 0 + cond (b && q x) 1 0) is in omega arith

-- the first element of a list that passes, and the lists before and behind it
record Cut {X : Type 0} (p : X → Bool) (x : X) (rest ys : List X) : Type 0 where
  front : List X
  back : List X
  is : ys ≡ front ++ x ∷ back
  none : filter p front ≡ []
  left : filter p back ≡ rest

cut : {X : Type 0} (p : X → Bool) (x : X) (rest ys : List X) → filter p ys ≡ x ∷ rest → Cut p x rest ys
cut p x rest [] e = absurd cc
cut {X} p x rest (y ∷ ys) e = by (p y) refl (λ h. cut p x rest ys h) e
  where
    by : (b : Bool) → p y ≡ b → (filter p ys ≡ x ∷ rest → Cut p x rest ys) → cond b (y ∷ filter p ys) (filter p ys) ≡ x ∷ rest → Cut p x rest (y ∷ ys)
    by true is later e = let same : y ≡ x = cc in let left : filter p ys ≡ rest = cc in record { front = []; back = ys; is = ap (λ z. z ∷ ys) same; none = refl; left = left }
    by false is later e =
        let c = later e in
        record {
          front = y ∷ c.front;
          back = c.back;
          is = ap (λ l. y ∷ l) c.is;
          none = ap (λ b. cond b (y ∷ filter p c.front) (filter p c.front)) is ∙ c.none;
          left = c.left;
        }

module _ {X : Type 0} (key : X → ℕ) where
  abbrev of_key : ℕ → List X → List X
  of_key n xs = filter (λ x. nat_eq (key x) n) xs

  taken : (n : ℕ) (x : X) (xs : List X) → key x ≡ n → of_key n (x ∷ xs) ≡ x ∷ of_key n xs
  taken n x xs e = ap (λ b. cond b (x ∷ of_key n xs) (of_key n xs)) (eq-eqb (key x) n e)

  passed : (n : ℕ) (x : X) (xs : List X) → (key x ≡ n → ⊥) → of_key n (x ∷ xs) ≡ of_key n xs
  passed n x xs ne = ap (λ b. cond b (x ∷ of_key n xs) (of_key n xs)) (ne_eqb (key x) n ne)

  -- without x on both sides
  without : (x : X) (xs ys front back : List X) → ys ≡ front ++ x ∷ back → of_key (key x) front ≡ [] → of_key (key x) back ≡ of_key (key x) xs
      → ((n : ℕ) → of_key n (x ∷ xs) ≡ of_key n ys) → (n : ℕ) → of_key n xs ≡ of_key n (front ++ back)
  without x xs ys front back is none left h n = ⊎_elim
      (λ same. subst (λ m. of_key m xs ≡ of_key m (front ++ back)) (sym same)
      (sym (filter-append (λ y. nat_eq (key y) (key x)) front back ∙ ap (λ l. l ++ of_key (key x) back) none ∙ left)))
      (λ ne.
      let other : key x ≡ n → ⊥ = λ e. ne (sym e) in
      sym (passed n x xs other) ∙ h n ∙ ap (of_key n) is ∙ filter-append (λ y. nat_eq (key y) n) front (x ∷ back)
      ∙ ap (λ l. of_key n front ++ l) (passed n x back other) ∙ sym (filter-append (λ y. nat_eq (key y) n) front back))
      (cases_eq n (key x))

  pub same_counts : (t : X → Bool) (xs ys : List X) → ((n : ℕ) → of_key n xs ≡ of_key n ys) → count_by t xs ≡ count_by t ys
  same_counts t [] [] h = refl
  same_counts t [] (y ∷ ys) h = let e : [] ≡ y ∷ of_key (key y) ys = h (key y) ∙ taken (key y) y ys refl in absurd cc
  same_counts t (x ∷ xs) ys h =
      let c = cut (λ y. nat_eq (key y) (key x)) x (of_key (key x) xs) ys (sym (h (key x)) ∙ taken (key x) x xs refl) in
      let r = same_counts t xs (c.front ++ c.back) (without x xs ys c.front c.back c.is c.none c.left h) in
      let a = count_cons t x xs in
      let b = count_append t c.front (x ∷ c.back) in
      let d = count_cons t x c.back in
      let e = count_append t c.front c.back in
      let f = ap (count_by t) c.is in
      omega arith
