-- The first of a list that passes a test.
use Rattle.std.proofs.Common.{◌≡◌, ◌∙◌, ◌<◌, ◌≤◌, ◌+◌, ◌++◌, ℕ, zero, suc, Bool, true, false, List, [], ◌∷◌, Option, Some, None, ap, arith, cond, find, get_or, length, map, sym, take}
use Rattle.std.proofs.lemmas.List.{take_all, take_more}
use Rattle.std.specs.Str.{str_eq_ignore_ascii_case}
use Rattle.sw_topo.specs.Checked.{first_of}
use Rattle.sw_faults.specs.Nearest.{is_near, like, nearest}

step : {A : Type 0} (b : Bool) (x before all found : Option A) → cond b x before ≡ None → (x ≡ None → ⊥) → (before ≡ None → all ≡ found) → cond b x all ≡ found
step true x before all found none some more = absurd (some none)
step false x before all found none some more = more none

some_is_not_none : {A : Type 0} (x : A) → Some x ≡ None → ⊥
some_is_not_none x is = absurd cc

-- none of those before it passes, and it passes
pub first_here : {T X : Type 0} (p : X → Bool) (f : T → X) (ts : List T) (i : ℕ) (d : T) → i < length ts
    → find p (map f (take i ts)) ≡ None → p (f (get_or ts i d)) ≡ true → find p (map f ts) ≡ Some (f (get_or ts i d))
first_here p f [] i d within none passes = absurd (omega (arith, within))
first_here p f (x ∷ xs) zero d within none passes = ap (λ b. cond b (Some (f x)) (find p (map f xs))) passes
first_here p f (x ∷ xs) (suc i) d within none passes =
    step (p (f x)) (Some (f x)) (find p (map f (take i xs))) (find p (map f xs)) (Some (f (get_or xs i d))) none (some_is_not_none (f x))
    (λ rest. first_here p f xs i d (omega (arith, within)) rest passes)

none_with : {T X : Type 0} (p : X → Bool) (f : T → X) (ts : List T) (t : T) → find p (map f ts) ≡ None → p (f t) ≡ false → find p (map f (ts ++ t ∷ [])) ≡ None
none_with p f [] t none fails = ap (λ b. cond b (Some (f t)) None) fails
none_with p f (x ∷ xs) t none fails =
    step (p (f x)) (Some (f x)) (find p (map f xs)) (find p (map f (xs ++ t ∷ []))) None none (some_is_not_none (f x)) (λ rest. none_with p f xs t rest fails)

-- none of those before it passes, and it does not
pub none_still : {T X : Type 0} (p : X → Bool) (f : T → X) (ts : List T) (i : ℕ) (d : T) → i < length ts
    → find p (map f (take i ts)) ≡ None → p (f (get_or ts i d)) ≡ false → find p (map f (take (i + 1) ts)) ≡ None
none_still p f ts i d within none fails = ap (λ l. find p (map f l)) (take_more ts i d within) ∙ none_with p f (take i ts) (get_or ts i d) none fails

-- where all were looked at
pub none_there : {T X : Type 0} (p : X → Bool) (f : T → X) (ts : List T) (i : ℕ) → length ts ≤ i → find p (map f (take i ts)) ≡ None → find p (map f ts) ≡ None
none_there p f ts i past none = ap (λ l. find p (map f l)) (sym (take_all i ts past)) ∙ none

-- where no text differs by the case of its letters alone: one at a distance of 1, and one that is farther away
pub near_first : (name : List ℕ) (texts : List (List ℕ)) (x : List ℕ) → find (λ t. str_eq_ignore_ascii_case t name) texts ≡ None
    → Some x ≡ find (is_near name 1) texts → Some x ≡ like name texts
near_first name texts x none one =
    sym (ap (λ o. first_of o (nearest name texts)) none ∙ ap (λ o. first_of o (find (is_near name 2) texts)) (sym one))

pub near_second : (name : List ℕ) (texts : List (List ℕ)) (found : Option (List ℕ)) → find (λ t. str_eq_ignore_ascii_case t name) texts ≡ None
    → None ≡ find (is_near name 1) texts → found ≡ find (is_near name 2) texts → found ≡ like name texts
near_second name texts found none one two =
    two ∙ sym (ap (λ o. first_of o (nearest name texts)) none ∙ ap (λ o. first_of o (find (is_near name 2) texts)) (sym one))
