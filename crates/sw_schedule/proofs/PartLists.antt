-- The cells of a network, and what each has, one after another.
use Rattle.std.proofs.Common.{◌≡◌, ◌∙◌, ℕ, ◌+◌, ◌<◌, ◌≤◌, ◌++◌, ◌∷◌, List, [], ap, append_assoc, arith, get_or, length, map, subst, sym, take}
use Rattle.std.proofs.lemmas.List.FromFn.{map-range_with_len_more}
use Rattle.std.proofs.lemmas.List.{take_all, take_more}
use Rattle.std.specs.List.{AllZip, range_with_len}
use Rattle.sw_topo.proofs.Lists.{zip_push}

-- one number more
pub one_more : {X : Type 0} (f : ℕ → X) (all more : List X) (n : ℕ) → all ≡ map f (range_with_len 0 n) → more ≡ all ++ f n ∷ [] → more ≡ map f (range_with_len 0 (n + 1))
one_more f all more n so_far is = is ∙ ap (λ l. l ++ f n ∷ []) so_far ∙ sym (map-range_with_len_more f 0 n n (omega arith))

-- the same behind others
pub one_more_behind : {X : Type 0} (f : ℕ → X) (others all more : List X) (n : ℕ) → all ≡ others ++ map f (range_with_len 0 n) → more ≡ all ++ f n ∷ []
    → more ≡ others ++ map f (range_with_len 0 (n + 1))
one_more_behind f others all more n so_far is =
    is ∙ ap (λ l. l ++ f n ∷ []) so_far ∙ append_assoc others (map f (range_with_len 0 n)) (f n ∷ [])
    ∙ ap (λ l. others ++ l) (sym (map-range_with_len_more f 0 n n (omega arith)))

-- what each of the first has, and the next
pub next_part : {A B : Type 0} (Q : A → B → Type 0) (xs : List A) (i : ℕ) (d : A) (ys more : List B) (y : B) → i < length xs → more ≡ ys ++ y ∷ []
    → AllZip Q (take i xs) ys → Q (get_or xs i d) y → AllZip Q (take (i + 1) xs) more
next_part {A} {B} Q xs i d ys more y lt is all one =
    subst (λ (l : List A). AllZip Q l more) (sym (take_more xs i d lt))
    (subst (λ (l : List B). AllZip Q (take i xs ++ get_or xs i d ∷ []) l) (sym is) (zip_push Q (take i xs) ys (get_or xs i d) y all one))

-- what all of them have
pub all_parts : {A B : Type 0} (Q : A → B → Type 0) (xs : List A) (i : ℕ) (ys : List B) → length xs ≤ i → AllZip Q (take i xs) ys → AllZip Q xs ys
all_parts {A} {B} Q xs i ys ended all = subst (λ (l : List A). AllZip Q l ys) (take_all i xs ended) all
