-- Lists, what may be there, tests and results, in general: what several crates need of them.
use Rattle.std.proofs.Common.{◌≡◌, ◌≢◌, ℕ, zero, suc, ◌<◌, ◌↔◌, Bool, true, false, IsTrue, List, [], ◌∷◌, ◌++◌, length, take, drop, filter, get_or, ◌+◌, ◌&&◌, cond, Option, Some, None, option_map, is_some, Contains, refl, sym, ap, ◌∙◌, inl, inr, arith}
use Rattle.sw_topo.specs.Checked.{first_of}
use Rattle.std.specs.Prelude.{Result, Ok, Err, OnErr, slice_get, slice_set}
use Rattle.std.specs.List.{AllZip, flat_map}
use Rattle.std.proofs.Math.Seq.{take-append_seam}
use Rattle.std.proofs.lemmas.Bool.{cases_Bool, false≢true}
use Rattle.std.proofs.lemmas.List.{drop_more, flat_map_more, take_more}
use Rattle.std.proofs.lemmas.List.Elements.{Contains-append_left, Contains-append_right, Contains-append_cases, Contains-push, Contains-push_cases}
use Rattle.std.proofs.lemmas.Option.{same_Some}

-- ---- what may be there

pub none_some : {A : Type 0} (x : A) → ◌≡◌ {A = Option A} None (Some x) → ⊥
none_some x e = cc

-- the first of three, however they are grouped
pub first_of-assoc : {A : Type 0} (o p q : Option A) → first_of (first_of o p) q ≡ first_of o (first_of p q)
first_of-assoc None p q = refl
first_of-assoc (Some x) p q = refl

-- what is there by a test, where the test passes
pub cond_some : {A : Type 0} (b : Bool) (x y : A) → cond b (Some x) None ≡ Some y → (b ≡ true) × (x ≡ y)
cond_some true x y is = (refl, same_Some x y is)
cond_some false x y is = absurd (none_some y is)

pub is_some-map : {A B : Type 0} (f : A → B) (o : Option A) → is_some (option_map f o) ≡ is_some o
is_some-map f None = refl
is_some-map f (Some x) = refl

-- ---- tests

pub and_false : (a b : Bool) → b ≡ false → (a && b) ≡ false
and_false true b is = is
and_false false b is = refl

-- tests that pass together are the same
pub same_bool : (a b : Bool) → (a ≡ true → b ≡ true) → (b ≡ true → a ≡ true) → a ≡ b
same_bool true b to back = sym (to refl)
same_bool false true to back = back refl
same_bool false false to back = refl

-- so are tests of one thing
pub same_answer : (P : Type 0) (a b : Bool) → (IsTrue a ↔ P) → (IsTrue b ↔ P) → a ≡ b
same_answer P true true x y = refl
same_answer P true false x y = sym (y.1 (x.0 refl))
same_answer P false true x y = x.1 (y.0 refl)
same_answer P false false x y = refl

pub third : (a b c : Bool) → (a && b && c) ≡ true → c ≡ true
third false b c h = absurd (false≢true h)
third true false c h = absurd (false≢true h)
third true true c h = h

-- ---- results

-- what an error says, said otherwise
pub on_err_then : {T E P Q : Type 0} (r : Result T E) → (P → Q) → OnErr r P → OnErr r Q
on_err_then (Ok x) then h = tt
on_err_then (Err e) then h = then h

-- ---- the beginning of a list

-- what is within the beginning is there
pub in_front : {A : Type 0} (xs ys : List A) (i : ℕ) (x : A) → i < length xs → slice_get (xs ++ ys) i ≡ Some x → slice_get xs i ≡ Some x
in_front [] ys i x lt here = absurd (omega (arith, lt))
in_front (y ∷ xs) ys zero x lt here = here
in_front (y ∷ xs) ys (suc i) x lt here = in_front xs ys i x (omega (arith, lt)) here

-- what is there stays where more follows
pub at_front : {A : Type 0} (xs ys : List A) (i : ℕ) (x : A) → slice_get xs i ≡ Some x → slice_get (xs ++ ys) i ≡ Some x
at_front [] ys i x here = absurd cc
at_front (z ∷ xs) ys zero x here = here
at_front (z ∷ xs) ys (suc i) x here = at_front xs ys i x here

-- a list over the beginning of one that is as long is that list
pub whole : {A : Type 0} (len : ℕ) (new old : List A) → len ≡ length old → length new ≡ length old → take len (new ++ drop (length new) old) ≡ new
whole len new old a b = let e : len ≡ length new = omega arith in ap (λ k. take k (new ++ drop (length new) old)) e ∙ take-append_seam new (drop (length new) old)

-- what is left from a place on begins with what is there
pub drop_at : {A : Type 0} (xs : List A) (i : ℕ) (x : A) → slice_get xs i ≡ Some x → drop i xs ≡ x ∷ drop (suc i) xs
drop_at [] i x e = absurd cc
drop_at (y ∷ xs) zero x e = ap (λ z. z ∷ xs) (same_Some y x e)
drop_at (y ∷ xs) (suc i) x e = drop_at xs i x e

pub next_at : {A : Type 0} (xs : List A) (i : ℕ) (x : A) → i < length xs → x ≡ get_or xs i x → drop i xs ≡ x ∷ drop (i + 1) xs
next_at xs i x lt is = drop_more xs i x lt ∙ ap (λ z. z ∷ drop (i + 1) xs) (sym is)

-- what comes last is at the end
pub slice_get-push_last : {A : Type 0} (xs : List A) (x : A) → slice_get (xs ++ x ∷ []) (length xs) ≡ Some x
slice_get-push_last [] x = refl
slice_get-push_last (y ∷ xs) x = slice_get-push_last xs x

-- ---- a text of many, one more of which is told

pub line_at : {A : Type 0} (f : A → List ℕ) (xs : List A) (i : ℕ) (none : A) (start before after : List ℕ) → i < length xs → before ≡ start ++ flat_map f (take i xs)
    → after ≡ before ++ f (get_or xs i none) → after ≡ start ++ flat_map f (take (i + 1) xs)
line_at f xs i none start before after within so_far more =
    more ∙ ap (λ l. l ++ f (get_or xs i none)) so_far ∙ flat_map_more f start (take i xs) (get_or xs i none) ∙ ap (λ l. start ++ flat_map f l) (sym (take_more xs i none within))

-- ---- an element that is set

pub slice_get-set_other : {A : Type 0} (xs : List A) (i j : ℕ) (y : A) → j ≢ i → slice_get (slice_set xs i y) j ≡ slice_get xs j
slice_get-set_other [] i j y other = refl
slice_get-set_other (x ∷ xs) zero zero y other = absurd (other refl)
slice_get-set_other (x ∷ xs) zero (suc j) y other = refl
slice_get-set_other (x ∷ xs) (suc i) zero y other = refl
slice_get-set_other (x ∷ xs) (suc i) (suc j) y other = slice_get-set_other xs i j y (λ e. other (ap suc e))

pub slice_get-set_same : {A : Type 0} (xs : List A) (i : ℕ) (x y : A) → slice_get xs i ≡ Some x → slice_get (slice_set xs i y) i ≡ Some y
slice_get-set_same [] i x y e = cc
slice_get-set_same (z ∷ xs) zero x y e = refl
slice_get-set_same (z ∷ xs) (suc i) x y e = slice_get-set_same xs i x y e

-- ---- what a list has

pub none_in : {A : Type 0} (x : A) → Contains [] x → ⊥
none_in x h = omega (arith, h.1)

-- a list that has nothing is empty
pub none_listed : (xs : List ℕ) → ((n : ℕ) → Contains xs n → ⊥) → xs ≡ []
none_listed [] never = refl
none_listed (x ∷ xs) never = absurd (never x (0, omega arith, refl))

-- what passes a test stays where those that pass are kept
pub kept : (p : ℕ → Bool) (xs : List ℕ) (x : ℕ) → Contains xs x → p x ≡ true → Contains (filter p xs) x
kept p [] x here is = absurd (omega (arith, here.1))
kept p (y ∷ ys) x here is =
    elim (Contains-append_cases (y ∷ []) ys x here) [
      | inl first ↦ elim (Contains-push_cases [] y x first) [
        | inl none ↦ absurd (omega (arith, none.1))
        | inr same ↦ rw (same, is) (Contains-append_left (x ∷ []) (filter p ys) x (Contains-push [] x))
      ]
      | inr later ↦ elim (cases_Bool (p y)) [
        | inl passes ↦ rw passes (Contains-append_right (y ∷ []) (filter p ys) x (kept p ys x later is))
        | inr fails ↦ rw fails (kept p ys x later is)
      ]
    ]

-- ---- two lists side by side

pub zip_push : {A B : Type 0} (R : A → B → Type 0) (xs : List A) (ys : List B) (x : A) (y : B) → AllZip R xs ys → R x y → AllZip R (xs ++ x ∷ []) (ys ++ y ∷ [])
zip_push R [] [] x y all one = (one, tt)
zip_push R [] (b ∷ ys) x y all one = absurd all
zip_push R (a ∷ xs) [] x y all one = absurd all
zip_push R (a ∷ xs) (b ∷ ys) x y all one = (all.0, zip_push R xs ys x y all.1 one)
