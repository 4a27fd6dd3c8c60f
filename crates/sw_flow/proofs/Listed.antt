-- What lists made by `map` and `filter_map` have, and ranges.
use Rattle.std.proofs.Common.{◌≡◌, ℕ, zero, suc, ◌<◌, List, [], ◌∷◌, map, filter_map, Contains, Option, Some, None, refl, sym, ap, ◌∙◌, subst, ◌⊎◌, inl, inr, arith}
use Rattle.std.specs.List.{cons_option}
use Rattle.std.proofs.lemmas.List.{get_or-map, length-map}

module _ {X : Type 0} where
  pub Contains-head : (x : X) (xs : List X) → Contains (x ∷ xs) x
  Contains-head x xs = (0, omega arith, refl)

  pub Contains-later : (x y : X) (xs : List X) → Contains xs y → Contains (x ∷ xs) y
  Contains-later x y xs h = (suc h.0, omega (arith, h.1), h.2)

  pub Contains-cases : (x y : X) (xs : List X) → Contains (x ∷ xs) y → (x ≡ y) ⊎ Contains xs y
  Contains-cases x y xs (zero, lt, e) = inl e
  Contains-cases x y xs (suc k, lt, e) = inr (k, omega (arith, lt), e)

pub Contains-map : {X Y : Type 0} (f : X → Y) (xs : List X) (x : X) → Contains xs x → Contains (map f xs) (f x)
Contains-map f xs x h = (h.0, subst (λ (n : ℕ). h.0 < n) (sym (length-map xs f)) h.1, get_or-map f xs h.0 x (f x) h.1 ∙ ap f h.2)

-- an element of the list of which h gives y
abbrev pub Given : {X Y : Type 0} → (X → Option Y) → List X → Y → Type 0
Given {X} h xs y = (x : X) × Contains xs x × (h x ≡ Some y)

-- an element of the list that f takes to y
abbrev pub Mapped : {X Y : Type 0} → (X → Y) → List X → Y → Type 0
Mapped {X} f xs y = (x : X) × Contains xs x × (f x ≡ y)

module _ {X Y : Type 0} where
  mapped_later : (f : X → Y) (x : X) (xs : List X) (y : Y) → Mapped f xs y → Mapped f (x ∷ xs) y
  mapped_later f x xs y m = (m.0, Contains-later x m.0 xs m.1, m.2)

  pub Contains-from_map : (f : X → Y) (xs : List X) (y : Y) → Contains (map f xs) y → Mapped f xs y
  Contains-from_map f [] y h = absurd (omega (arith, h.1))
  Contains-from_map f (x ∷ xs) y h = by (Contains-from_map f xs y) (Contains-cases (f x) y (map f xs) h)
    where
      by : (Contains (map f xs) y → Mapped f xs y) → (f x ≡ y) ⊎ Contains (map f xs) y → Mapped f (x ∷ xs) y
      by rest (inl e) = (x, Contains-head x xs, e)
      by rest (inr later) = mapped_later f x xs y (rest later)

  given_later : (h : X → Option Y) (x : X) (xs : List X) (y : Y) → Given h xs y → Given h (x ∷ xs) y
  given_later h x xs y m = (m.0, Contains-later x m.0 xs m.1, m.2)

  pub Contains-from_filter_map : (h : X → Option Y) (xs : List X) (y : Y) → Contains (filter_map h xs) y → Given h xs y
  Contains-from_filter_map h [] y m = absurd (omega (arith, m.1))
  Contains-from_filter_map h (x ∷ xs) y m = by (h x) refl m (Contains-from_filter_map h xs y)
    where
      by : (o : Option Y) → h x ≡ o → Contains (cons_option o (filter_map h xs)) y → (Contains (filter_map h xs) y → Given h xs y) → Given h (x ∷ xs) y
      by None e k rest = given_later h x xs y (rest k)
      by (Some z) e k rest = at (Contains-cases z y (filter_map h xs) k)
        where
          at : (z ≡ y) ⊎ Contains (filter_map h xs) y → Given h (x ∷ xs) y
          at (inl same) = (x, Contains-head x xs, e ∙ ap Some same)
          at (inr later) = given_later h x xs y (rest later)

  pub Contains-filter_map : (h : X → Option Y) (xs : List X) (x : X) (y : Y) → Contains xs x → h x ≡ Some y → Contains (filter_map h xs) y
  Contains-filter_map h [] x y m e = absurd (omega (arith, m.1))
  Contains-filter_map h (z ∷ xs) x y m e = by (Contains-cases z x xs m) (λ k. Contains-filter_map h xs x y k e)
    where
      later : (o : Option Y) → Contains (filter_map h xs) y → Contains (cons_option o (filter_map h xs)) y
      later None k = k
      later (Some w) k = Contains-later w y (filter_map h xs) k

      by : (z ≡ x) ⊎ Contains xs x → (Contains xs x → Contains (filter_map h xs) y) → Contains (filter_map h (z ∷ xs)) y
      by (inl same) rest = rw (ap h same ∙ e) (Contains-head y (filter_map h xs))
      by (inr k) rest = later (h z) (rest k)
