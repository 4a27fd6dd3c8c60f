-- How often a number stands in a list.
use Rattle.std.proofs.Common.{◌≡◌, ℕ, ◌+◌, Bool, cond, List, [], ◌∷◌, ◌++◌, refl, arith, eq-eqb, ne_eqb}
use Rattle.std.specs.Prelude.{◌==◌}
use Rattle.std.proofs.lemmas.List.Sums.{sum_by-append}
use Rattle.sw_graph.specs.Walking.{times}

abbrev pub flag : Bool → ℕ
flag b = cond b 1 0

pub times_push : (xs : List ℕ) (e d : ℕ) → times (xs ++ e ∷ []) d ≡ times xs d + flag (e == d)
times_push xs e d = let h = sum_by-append (λ (x : ℕ). flag (x == d)) xs (e ∷ []) in omega arith

pub times_cons : (x : ℕ) (xs : List ℕ) (d : ℕ) → times (x ∷ xs) d ≡ flag (x == d) + times xs d
times_cons x xs d = let h = sum_by-append (λ (x : ℕ). flag (x == d)) (x ∷ []) xs in omega arith

pub flag_here : (e d : ℕ) → e ≡ d → flag (e == d) ≡ 1
flag_here e d same = rw (eq-eqb e d same) refl

pub flag_there : (e d : ℕ) → (e ≡ d → ⊥) → flag (e == d) ≡ 0
flag_there e d ne = rw (ne_eqb e d ne) refl
