-- Lists to which numbers are added that are new.
use Rattle.std.proofs.Common.{◌≡◌, ℕ, ◌+◌, ◌<◌, Bool, true, false, List, [], ◌∷◌, ◌++◌, length, get_or, take, All, refl, sym, ap, ◌∙◌, subst, ◌⊎◌, inl, inr, eqb}
use Rattle.std.specs.Prelude.{Contains, AllPairs, ◌≢◌}
use Rattle.std.specs.List.Sorted.{IsPermutation, IsStrictlyIncreasing, IsNonDecreasing}
use Rattle.std.proofs.lemmas.Bool.{cases_eq, eqb-true, eq-eqb, ne_eqb}
use Rattle.std.proofs.lemmas.List.{append-nil, append_assoc, get_or_append_left, get_or_default, take_more}
use Rattle.std.proofs.lemmas.List.Elements.{All-nil, All-cons, All-head, All-tail, All-push, Contains-append_left, Contains-push}
use Rattle.std.proofs.lemmas.List.Folds.{Any-from_list_any}
use Rattle.std.proofs.lemmas.Map.Keys.{IsDistinct-from_apart, IsDistinct-IsPermutation, IsStrictlyIncreasing-from_distinct}
use Rattle.sw_graph.specs.Walks.{IsWalk, holds, with_number, with_all}

pub Contains-from_holds : (xs : List ℕ) (n : ℕ) → holds xs n ≡ true → Contains xs n
Contains-from_holds xs n h =
    let a = Any-from_list_any (λ m. eqb m n) xs h in
    subst (Contains xs) (eqb-true a.1 n a.4) (a.0, a.2, a.3)

-- ys is xs and more behind it
pub record Grows (xs ys : List ℕ) : Type 0 where
  pub more : List ℕ
  pub is : ys ≡ xs ++ more

pub Contains-grows : (xs ys : List ℕ) (n : ℕ) → Grows xs ys → Contains xs n → Contains ys n
Contains-grows xs ys n g h = subst (λ (l : List ℕ). Contains l n) (sym g.is) (Contains-append_left xs g.more n h)

pub get_or-grows : (xs ys : List ℕ) (k d : ℕ) → Grows xs ys → k < length xs → get_or ys k d ≡ get_or xs k d
get_or-grows xs ys k d g lt = ap (λ l. get_or l k d) g.is ∙ get_or_append_left xs g.more d k lt

pub grows_with : (xs : List ℕ) (n : ℕ) → Grows xs (with_number xs n)
grows_with xs n = by (holds xs n) refl
  where
    by : (b : Bool) → holds xs n ≡ b → Grows xs (with_number xs n)
    by true e = rw e (record { more = []; is = sym (append-nil xs) })
    by false e = rw e (record { more = n ∷ []; is = refl })

pub Contains-with : (xs : List ℕ) (n : ℕ) → Contains (with_number xs n) n
Contains-with xs n = by (holds xs n) refl
  where
    by : (b : Bool) → holds xs n ≡ b → Contains (with_number xs n) n
    by true e = rw e (Contains-from_holds xs n e)
    by false e = rw e (Contains-push xs n)

pub All-with : (P : ℕ → Type 0) (xs : List ℕ) (n : ℕ) → All P xs → P n → All P (with_number xs n)
All-with P xs n all here = by (holds xs n) refl
  where
    by : (b : Bool) → holds xs n ≡ b → All P (with_number xs n)
    by true e = rw e all
    by false e = rw e (All-push P xs n all here)

pub grows_more : (xs ys zs : List ℕ) → Grows xs ys → Grows ys zs → Grows xs zs
grows_more xs ys zs a b = record {
  more = a.more ++ b.more;
  is = b.is ∙ ap (λ l. l ++ b.more) a.is ∙ append_assoc xs a.more b.more;
}

pub grows_all : (xs others : List ℕ) → Grows xs (with_all xs others)
grows_all xs [] = record { more = []; is = sym (append-nil xs) }
grows_all xs (n ∷ others) = grows_more xs (with_number xs n) _ (grows_with xs n) (grows_all (with_number xs n) others)

pub All-with_all : (P : ℕ → Type 0) (xs others : List ℕ) → All P xs → All P others → All P (with_all xs others)
All-with_all P xs [] all new = all
All-with_all P xs (n ∷ others) all new =
    All-with_all P (with_number xs n) others (All-with P xs n all (All-head P n others new)) (All-tail P n others new)

pub has_all : (xs others : List ℕ) → All (Contains (with_all xs others)) others
has_all xs [] = All-nil (Contains xs)
has_all xs (n ∷ others) =
    All-cons (Contains (with_all xs (n ∷ others))) n others (Contains-grows (with_number xs n) _ n (grows_all (with_number xs n) others) (Contains-with xs n)) (has_all (with_number xs n) others)

-- sorted, numbers that differ rise
pub rising_from_sort : (xs ys : List ℕ) → AllPairs (λ m n. m ≢ n) xs → IsPermutation xs ys → IsNonDecreasing ys → IsStrictlyIncreasing ys
rising_from_sort xs ys once same sorted =
    IsStrictlyIncreasing-from_distinct ys sorted (IsDistinct-IsPermutation eqb flips xs ys same (IsDistinct-from_apart eqb xs (λ i j d ij lt. ne_eqb _ _ (once i j d ij lt))))
  where
    flips : (x y : ℕ) → eqb x y ≡ eqb y x
    flips x y = by (cases_eq x y)
      where
        by : (x ≡ y) ⊎ (x ≡ y → ⊥) → eqb x y ≡ eqb y x
        by (inl e) = eq-eqb x y e ∙ sym (eq-eqb y x (sym e))
        by (inr ne) = ne_eqb x y ne ∙ sym (ne_eqb y x (λ e. ne (sym e)))

-- adding a number that the marks tell
pub known_stays : (marks : List Bool) (numbers : List ℕ) (n : ℕ) (b : Bool) → IsWalk marks numbers → n < length marks → b ≡ get_or marks n b → b ≡ true → numbers ≡ with_number numbers n
known_stays marks numbers n b w lt at is = let e : holds numbers n ≡ true = sym (w.marked n lt) ∙ get_or_default marks n false b lt ∙ sym at ∙ is in rw e refl

pub new_added : (marks : List Bool) (numbers : List ℕ) (n : ℕ) (b : Bool) → IsWalk marks numbers → n < length marks → b ≡ get_or marks n b → b ≡ false → numbers ++ n ∷ [] ≡ with_number numbers n
new_added marks numbers n b w lt at is = let e : holds numbers n ≡ false = sym (w.marked n lt) ∙ get_or_default marks n false b lt ∙ sym at ∙ is in rw e refl

-- one more number of a list is added
pub pushed_more : (before now after xs : List ℕ) (i n : ℕ) → i < length xs → n ≡ get_or xs i 0 → now ≡ before ++ take i xs → after ≡ now ++ n ∷ [] → after ≡ before ++ take (i + 1) xs
pushed_more before now after xs i n lt at now_is after_is =
    after_is ∙ ap (λ l. l ++ n ∷ []) now_is ∙ append_assoc before (take i xs) (n ∷ []) ∙ ap (λ k. before ++ (take i xs ++ k ∷ [])) at ∙ ap (λ l. before ++ l) (sym (take_more xs i 0 lt))
