-- The first such byte of a text, as a loop over the text comes to it, and what is cut there.
use Rattle.std.proofs.Common.{◌≡◌, ◌≢◌, ℕ, ◌+◌, ◌<◌, ◌≤◌, false, List, [], ◌∷◌, length, get_or, sym, ap, ◌∙◌, inl, inr, subst, arith, take, drop, eq-eqb, ne_eqb}
use Rattle.std.specs.Prelude.{◌==◌}
use Rattle.std.specs.List.{position_or_len, slice_split}
use Rattle.std.proofs.lemmas.Bool.{cases_lt}
use Rattle.std.proofs.lemmas.List.{get_or_default}
use Rattle.std.proofs.lemmas.List.Splits.{slice_split_first, slice_split_none}
use Rattle.std.proofs.lemmas.List.Sums.{position_or_len_is}

-- none of the first i bytes is such a one
abbrev pub NoneBefore : ℕ → List ℕ → ℕ → Type 0
NoneBefore byte xs i = (k : ℕ) → k < i → (get_or xs k 0 == byte) ≡ false

pub none_more : (byte : ℕ) (xs : List ℕ) (i : ℕ) → get_or xs i 0 ≢ byte → NoneBefore byte xs i → NoneBefore byte xs (i + 1)
none_more byte xs i fails before k below =
    elim (cases_lt k i) [
      | inl low ↦ before k low
      | inr high ↦ let e : k ≡ i = omega (arith, below, high) in rw e (ne_eqb (get_or xs i 0) byte fails)
    ]

-- what stands before the first, and what stands after it
pub found_at : (byte : ℕ) (xs : List ℕ) (i : ℕ) → i < length xs → NoneBefore byte xs i → get_or xs i 0 ≡ byte
    → slice_split (λ b. b == byte) xs ≡ take i xs ∷ slice_split (λ b. b == byte) (drop (i + 1) xs)
found_at byte xs i within before is =
    let at : position_or_len (λ b. b == byte) xs ≡ i = position_or_len_is (λ b. b == byte) xs i 0 (omega (arith, within)) before (λ _. eq-eqb (get_or xs i 0) byte is) in
    slice_split_first (λ b. b == byte) xs 0 (subst (λ (k : ℕ). k < length xs) (sym at) within)
    ∙ ap (λ k. take k xs ∷ slice_split (λ b. b == byte) (drop (k + 1) xs)) at

-- there is none
pub not_found : (byte : ℕ) (xs : List ℕ) (i : ℕ) → length xs ≤ i → NoneBefore byte xs i → slice_split (λ b. b == byte) xs ≡ xs ∷ []
not_found byte xs i past before =
    slice_split_none (λ b. b == byte) xs (λ k d within. rw (get_or_default xs k d 0 within) (before k (omega (arith, within, past))))
