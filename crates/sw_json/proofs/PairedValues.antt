-- Values that are made for the pairs of two lists.
use Rattle.std.proofs.Common.{◌≡◌, ◌∙◌, ℕ, ◌+◌, ◌<◌, ◌≤◌, List, [], ◌∷◌, ◌++◌, ap, arith, get_or, length, map, min, refl, sym, take}
use Rattle.std.specs.List.{zip}
use Rattle.std.proofs.lemmas.List.{map-append, take_all, take_more}
use Rattle.std.proofs.lemmas.Slice.Zip.{get_or-zip, length-zip}
use Rattle.serde_json.specs.Data.{Data}

-- the values of one more element
map_take_more : {X : Type 0} (f : X → Data) (xs : List X) (i : ℕ) (d : X) → i < length xs
    → map f (take (i + 1) xs) ≡ map f (take i xs) ++ f (get_or xs i d) ∷ []
map_take_more f xs i d lt = ap (map f) (take_more xs i d lt) ∙ map-append f (take i xs) (get_or xs i d ∷ [])

-- the values of one more pair
map_zip_more : {A B : Type 0} (f : A × B → Data) (xs : List A) (ys : List B) (i : ℕ) (a : A) (b : B) → i < length xs → i < length ys
    → map f (take (i + 1) (zip xs ys)) ≡ map f (take i (zip xs ys)) ++ f (get_or xs i a, get_or ys i b) ∷ []
map_zip_more f xs ys i a b p q =
    let within : i < length (zip xs ys) = rw (length-zip xs ys) (omega arith) in
    map_take_more f (zip xs ys) i (a, b) within ∙ ap (λ pair. map f (take i (zip xs ys)) ++ f pair ∷ []) (get_or-zip xs ys i (a, b) p q)

-- the values of i pairs, and then that of the next
pub one_more_value : {A B : Type 0} (f : A × B → Data) (xs : List A) (ys : List B) (i n : ℕ) (a : A) (b : B) (before after : List Data)
    → i < length xs → i < length ys → a ≡ get_or xs i a → b ≡ get_or ys i b → n ≡ i + 1
    → before ≡ map f (take i (zip xs ys)) → after ≡ before ++ f (a, b) ∷ [] → after ≡ map f (take n (zip xs ys))
one_more_value f xs ys i n a b before after p q is_a is_b next e more =
    let step = map_zip_more f xs ys i a b p q in
    let pair : (get_or xs i a, get_or ys i b) ≡ (a, b) = cc in
    more ∙ (ap (λ values. values ++ f (a, b) ∷ []) e ∙ (ap (λ value. map f (take i (zip xs ys)) ++ f value ∷ []) (sym pair) ∙ (sym step ∙ ap (λ k. map f (take k (zip xs ys))) (sym next))))

map_zip-map : {A B C : Type 0} (f : A × C → Data) (h : B → C) (xs : List A) (ys : List B) → map (λ (p : A × B). f (p.0, h p.1)) (zip xs ys) ≡ map f (zip xs (map h ys))
map_zip-map f h [] ys = refl
map_zip-map f h (x ∷ xs) [] = refl
map_zip-map f h (x ∷ xs) (y ∷ ys) = ap (λ rest. f (x, h y) ∷ rest) (map_zip-map f h xs ys)

-- the values of all pairs
pub all_values : {A B C : Type 0} (f : A × C → Data) (h : B → C) (xs : List A) (ys : List B) (n : ℕ) (values : List Data) → n ≡ min (length xs) (length ys)
    → values ≡ map (λ (p : A × B). f (p.0, h p.1)) (take n (zip xs ys)) → values ≡ map f (zip xs (map h ys))
all_values {A = A} {B = B} f h xs ys n values ended e =
    let whole : length (zip xs ys) ≤ n = rw (length-zip xs ys) (omega arith) in
    e ∙ (ap (map (λ (p : A × B). f (p.0, h p.1))) (take_all n (zip xs ys) whole) ∙ map_zip-map f h xs ys)
