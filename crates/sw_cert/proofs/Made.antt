-- Lists all of whose elements are right, as loops over them find it.
use Rattle.std.proofs.Common.{◌≡◌, ℕ, suc, ◌+◌, ◌<◌, ◌≤◌, inl, inr, List, [], ◌∷◌, length, map, get_or, sym, ap, ◌∙◌, subst, arith}
use Rattle.std.specs.Prelude.{Vec}
use Rattle.std.specs.List.{AllByRecursion}
use Rattle.std.specs.declared.alloc.Global.{Global}
use Rattle.std.proofs.lemmas.Bool.{cases_lt}
use Rattle.std.proofs.lemmas.List.{get_or-map, length-map}
use Rattle.sw_flow.specs.declared.place.Place.{Place}
use Rattle.sw_cert.specs.Reading.{items_of}

all_from : {A : Type 0} (P : A → Type 0) (xs : List A) → ((i : ℕ) (d : A) → i < length xs → P (get_or xs i d)) → AllByRecursion P xs
all_from P [] h = tt
all_from P (x ∷ xs) h = (h 0 x (omega arith), all_from P xs (λ i d lt. h (suc i) d (omega arith)))

-- what each of the first Vecs has, and then what one more has
pub one_more : (P : List Place → Type 0) (flows : List (Vec Place Global)) (i : ℕ) (v : Vec Place Global) → ((k : ℕ) (d : List Place) → k < i → P (get_or (map items_of flows) k d))
    → i < length flows → v ≡ get_or flows i v → P v.items → (k : ℕ) (d : List Place) → k < i + 1 → P (get_or (map items_of flows) k d)
one_more P flows i v before within is here k d lt = elim (cases_lt k i) [
  | inl less ↦ before k d less
  | inr more ↦
      let at : i ≡ k = omega (arith, lt, more) in
      let same : get_or (map items_of flows) i d ≡ v.items = get_or-map items_of flows i v d within ∙ ap items_of (sym is) in
      subst (λ x. P (get_or (map items_of flows) x d)) at (subst P (sym same) here)
]

-- what all Vecs have
pub all_so_far : (P : List Place → Type 0) (flows : List (Vec Place Global)) (i : ℕ) → ((k : ℕ) (d : List Place) → k < i → P (get_or (map items_of flows) k d)) → length flows ≤ i → AllByRecursion P (map items_of flows)
all_so_far P flows i all le = all_from P (map items_of flows) (λ k d lt. all k d (omega (arith, le, lt, length-map flows items_of)))
