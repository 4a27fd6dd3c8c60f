-- A text is cut at its first such byte.
use Rattle.std.proofs.Common.{◌≡◌, ℕ, ◌+◌, ◌≤◌, Bool, true, false, List, [], ◌∷◌, length, refl, ap, ◌∙◌, inl, inr, arith, suc, take, drop, cond, Some, None}
use Rattle.std.specs.Prelude.{◌==◌, position, nat_lt}
use Rattle.std.specs.List.{position_or_len, onto_first, slice_split}
use Rattle.std.proofs.lemmas.Bool.{ltb-true, ltb-false, cases_Bool}
use Rattle.std.proofs.lemmas.List.Splits.{slice_split_first}
use Rattle.sw_topo.proofs.Lists.{cond_some}

none_of : {A : Type 0} (b : Bool) (x : A) → cond b (Some x) None ≡ None → b ≡ false
none_of true x e = let bad : ◌≡◌ {A = Bool} true false = cc in bad
none_of false x e = refl

-- what stands before the first, and what stands after it
pub split_found : (byte : ℕ) (xs : List ℕ) (i : ℕ) → position (λ b. b == byte) xs ≡ Some i → slice_split (λ b. b == byte) xs ≡ take i xs ∷ slice_split (λ b. b == byte) (drop (i + 1) xs)
split_found byte xs i e =
    let h = cond_some (nat_lt (position_or_len (λ b. b == byte) xs) (length xs)) (position_or_len (λ b. b == byte) xs) i e in
    slice_split_first (λ b. b == byte) xs 0 (ltb-true _ _ h.0)
    ∙ ap (λ k. take k xs ∷ slice_split (λ b. b == byte) (drop (k + 1) xs)) h.1

whole_split : (byte : ℕ) (xs : List ℕ) → length xs ≤ position_or_len (λ b. b == byte) xs → slice_split (λ b. b == byte) xs ≡ xs ∷ []
whole_split byte [] le = refl
whole_split byte (x ∷ xs) le = elim (cases_Bool (x == byte)) [
  | inl t ↦ let le2 : suc (length xs) ≤ 0 = rw t at le in absurd (omega arith)
  | inr f ↦ let le2 : suc (length xs) ≤ 1 + position_or_len (λ b. b == byte) xs = rw f at le in rw f (ap (onto_first x) (whole_split byte xs (omega arith)))
]

-- there is none
pub split_whole : (byte : ℕ) (xs : List ℕ) → position (λ b. b == byte) xs ≡ None → slice_split (λ b. b == byte) xs ≡ xs ∷ []
split_whole byte xs e =
    let h = none_of (nat_lt (position_or_len (λ b. b == byte) xs) (length xs)) (position_or_len (λ b. b == byte) xs) e in
    whole_split byte xs (ltb-false _ _ h)
