-- Two lists, element by element.
use Rattle.std.proofs.Common.{◌≡◌, ℕ, zero, suc, List, [], ◌∷◌, map, length, Some, None, refl, subst, ap}
use Rattle.std.specs.Prelude.{slice_get}
use Rattle.std.specs.List.{AllByRecursion, AllZip}

module _ {A B : Type 0} (R : A → B → Type 0) where
  pub zip_here : (xs : List A) (ys : List B) → AllZip R xs ys → (i : ℕ) (x : A) → slice_get xs i ≡ Some x → (y : B) × (slice_get ys i ≡ Some y) × R x y
  zip_here [] ys h i x e = absurd (let bad : None ≡ Some x = e in cc)
  zip_here (z ∷ xs) [] h i x e = absurd h
  zip_here (z ∷ xs) (y ∷ ys) h zero x e = let same : z ≡ x = cc in (y, refl, subst (λ (w : A). R w y) same h.0)
  zip_here (z ∷ xs) (y ∷ ys) h (suc i) x e = zip_here xs ys h.1 i x e

  pub zip_back : (xs : List A) (ys : List B) → AllZip R xs ys → (i : ℕ) (y : B) → slice_get ys i ≡ Some y → (x : A) × (slice_get xs i ≡ Some x) × R x y
  zip_back [] [] h i y e = absurd (let bad : None ≡ Some y = e in cc)
  zip_back [] (z ∷ ys) h i y e = absurd h
  zip_back (x ∷ xs) [] h i y e = absurd h
  zip_back (x ∷ xs) (z ∷ ys) h zero y e = let same : z ≡ y = cc in (x, refl, subst (λ (w : B). R x w) same h.0)
  zip_back (x ∷ xs) (z ∷ ys) h (suc i) y e = zip_back xs ys h.1 i y e

  pub zip_length : (xs : List A) (ys : List B) → AllZip R xs ys → length ys ≡ length xs
  zip_length [] [] h = refl
  zip_length [] (y ∷ ys) h = absurd h
  zip_length (x ∷ xs) [] h = absurd h
  zip_length (x ∷ xs) (y ∷ ys) h = ap suc (zip_length xs ys h.1)

  -- what follows from what holds of each pair
  pub zip_all : {C : Type 0} (g : B → C) (Q : A → Type 0) (P : C → Type 0) → ((x : A) (y : B) → Q x → R x y → P (g y)) → (xs : List A) (ys : List B) → AllByRecursion Q xs → AllZip R xs ys → AllByRecursion P (map g ys)
  zip_all g Q P f [] [] q h = tt
  zip_all g Q P f [] (y ∷ ys) q h = absurd h
  zip_all g Q P f (x ∷ xs) [] q h = absurd h
  zip_all g Q P f (x ∷ xs) (y ∷ ys) q h = (f x y q.0 h.0, zip_all g Q P f xs ys q.1 h.1)

  -- the same of mapped second elements
  pub zip_map : {C : Type 0} (g : B → C) (S : A → C → Type 0) → ((x : A) (y : B) → R x y → S x (g y)) → (xs : List A) (ys : List B) → AllZip R xs ys → AllZip S xs (map g ys)
  zip_map g S f [] [] h = tt
  zip_map g S f [] (y ∷ ys) h = absurd h
  zip_map g S f (x ∷ xs) [] h = absurd h
  zip_map g S f (x ∷ xs) (y ∷ ys) h = (f x y h.0, zip_map g S f xs ys h.1)

  -- where each first element determines the second, the first list determines the second
  pub zip_determined : ((x : A) (y z : B) → R x y → R x z → y ≡ z) → (xs : List A) (ys zs : List B) → AllZip R xs ys → AllZip R xs zs → ys ≡ zs
  zip_determined f [] [] [] h k = refl
  zip_determined f [] (y ∷ ys) zs h k = absurd h
  zip_determined f [] [] (z ∷ zs) h k = absurd k
  zip_determined f (x ∷ xs) [] zs h k = absurd h
  zip_determined f (x ∷ xs) (y ∷ ys) [] h k = absurd k
  zip_determined f (x ∷ xs) (y ∷ ys) (z ∷ zs) h k =
      let first : y ≡ z = f x y z h.0 k.0 in
      let rest : ys ≡ zs = zip_determined f xs ys zs h.1 k.1 in
      λ i. first i ∷ rest i
