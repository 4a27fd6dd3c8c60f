-- Where a list holds a number.
use Rattle.std.proofs.Common.{◌≡◌, ℕ, ◌+◌, ◌<◌, ◌≤◌, Bool, false, List, length, get_or, take, sym, ap, ◌∙◌, inl, inr, arith}
use Rattle.std.specs.Prelude.{Contains, slice_index, ◌≢◌, ◌||◌}
use Rattle.std.specs.List.{list_any}
use Rattle.std.proofs.lemmas.Bool.{cases_lt}
use Rattle.std.proofs.lemmas.List.{get_or_default}
use Rattle.std.proofs.lemmas.List.Folds.{list_any_more}
use Rattle.sw_graph.specs.Walks.{holds}

-- the number stands at none of the first places
abbrev pub NotBefore : List ℕ → ℕ → ℕ → Type 0
NotBefore numbers n place = (k : ℕ) → k < place → slice_index numbers k ≡ n → ⊥

read_at : (items numbers : List ℕ) (place at : ℕ) → items ≡ numbers → place < length items → at ≡ get_or items place at → at ≡ slice_index numbers place
read_at items numbers place at same within is = is ∙ get_or_default items place at 0 within ∙ ap (λ (l : List ℕ). get_or l place 0) same

pub not_at : (items numbers : List ℕ) (n place at : ℕ) → items ≡ numbers → place < length items → at ≡ get_or items place at → at ≢ n → NotBefore numbers n place
    → NotBefore numbers n (place + 1)
not_at items numbers n place at same within is other before k below here =
    elim (cases_lt k place) [
      | inl low ↦ before k low here
      | inr high ↦
          let e : place ≡ k = omega (arith, below, high) in
          other (read_at items numbers place at same within is ∙ ap (slice_index numbers) e ∙ here)
    ]

pub here_at : (items numbers : List ℕ) (n place at : ℕ) → items ≡ numbers → place < length items → at ≡ get_or items place at → at ≡ n
    → (place < length numbers) × (slice_index numbers place ≡ n)
here_at items numbers n place at same within is here =
    (omega (arith, within, ap (length {A = ℕ}) same), sym (read_at items numbers place at same within is) ∙ here)

pub none_at : (numbers : List ℕ) (n place : ℕ) → length numbers ≤ place → NotBefore numbers n place → Contains numbers n → ⊥
none_at numbers n place past before (k, within, is) = before k (omega (arith, within, past)) (get_or_default numbers k 0 n within ∙ is)

-- what was asked of a list that is the same
pub held_in : (xs ys : List ℕ) (d : ℕ) (asked b : Bool) → ys ≡ xs → asked ≡ holds ys d → asked ≡ b → holds xs d ≡ b
held_in xs ys d asked b same is test = sym (ap (λ (l : List ℕ). holds l d) same) ∙ sym is ∙ test

-- one more of which the test does not hold
pub none_passes : (test : ℕ → Bool) (xs : List ℕ) (i : ℕ) → i < length xs → list_any test (take i xs) ≡ false → test (get_or xs i 0) ≡ false
    → list_any test (take (i + 1) xs) ≡ false
none_passes test xs i within before here = list_any_more test xs i 0 within ∙ ap (λ b. b || test (get_or xs i 0)) before ∙ here
