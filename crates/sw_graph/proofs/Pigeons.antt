-- Among more values than there are numbers for them one comes twice; chains that are joined.
use Rattle.std.proofs.Common.{◌≡◌, ℕ, zero, suc, ◌+◌, ◌<◌, ◌≤◌, ◌⊎◌, cond, refl, sym, ap, ◌∙◌, subst, inl, inr, arith, eq-eqb, ne_eqb}
use Rattle.std.specs.Prelude.{◌==◌}
use Rattle.std.proofs.lemmas.Bool.{cases_eq}
use Rattle.sw_graph.specs.Levels.{Chain}

abbrev moved_at : ℕ → (ℕ → ℕ) → ℕ → ℕ
moved_at n f k = cond (f k == n) (f (suc n)) (f k)

-- among the values of the first n + 1 numbers, all below n, one comes twice
pub pigeons : (n : ℕ) (f : ℕ → ℕ) → ((k : ℕ) → k ≤ n → f k < n) → (i : ℕ) × (j : ℕ) × (i < j) × (j ≤ n) × (f i ≡ f j)
pigeons zero f h = let e = h 0 (omega arith) in absurd (omega arith)
pigeons (suc n) f h = elim (found (suc n)) [
  | inl r ↦ (r.0, suc n, r.1, omega arith, r.2)
  | inr none ↦
      let r = pigeons n (moved_at n f) (λ k le. below none k le) in
      (r.0, r.1, r.2, (let b = r.3 in omega arith), back none r.0 r.1 (let a = r.2 in let b = r.3 in omega arith) (let b = r.3 in omega arith) r.4)
]
  where
    -- does some value before k equal the last one
    found : (k : ℕ) → ((i : ℕ) × (i < k) × (f i ≡ f (suc n))) ⊎ ((i : ℕ) → i < k → f i ≡ f (suc n) → ⊥)
    found zero = inr (λ i lt e. omega arith)
    found (suc k) = elim (found k) [
      | inl r ↦ inl (r.0, (let a = r.1 in omega arith), r.2)
      | inr none ↦ elim (cases_eq (f k) (f (suc n))) [
        | inl e ↦ inl (k, omega arith, e)
        | inr ne ↦ inr (λ i lt e. elim (cases_eq i k) [ inl s ↦ ne (sym (ap f s) ∙ e) | inr ns ↦ none i (omega arith) e ])
      ]
    ]

    moved_cases : (k : ℕ) → ((f k ≡ n) × (moved_at n f k ≡ f (suc n))) ⊎ ((f k ≡ n → ⊥) × (moved_at n f k ≡ f k))
    moved_cases k = elim (cases_eq (f k) n) [ inl e ↦ inl (e, rw (eq-eqb (f k) n e) refl) | inr ne ↦ inr (ne, rw (ne_eqb (f k) n ne) refl) ]

    below : ((i : ℕ) → i < suc n → f i ≡ f (suc n) → ⊥) → (k : ℕ) → k ≤ n → moved_at n f k < n
    below none k le = elim (moved_cases k) [
      | inl a ↦ let a1 = a.1 in let x = h (suc n) (omega arith) in let ne : (f k ≡ f (suc n)) → ⊥ = none k (omega arith) in let a0 = a.0 in elim (cases_eq (f (suc n)) n) [ inl e ↦ absurd (ne (a0 ∙ sym e)) | inr d ↦ omega arith ]
      | inr a ↦ let a1 = a.1 in let a0 = a.0 in let x = h k (omega arith) in omega arith
    ]

    back : ((i : ℕ) → i < suc n → f i ≡ f (suc n) → ⊥) → (i j : ℕ) → i ≤ n → j ≤ n → moved_at n f i ≡ moved_at n f j → f i ≡ f j
    back none i j li lj e = elim (moved_cases i) [
      | inl a ↦ elim (moved_cases j) [
        | inl b ↦ a.0 ∙ sym b.0
        | inr b ↦ absurd (none j (omega arith) (sym b.1 ∙ sym e ∙ a.1))
      ]
      | inr a ↦ elim (moved_cases j) [
        | inl b ↦ absurd (none i (omega arith) (sym a.1 ∙ e ∙ b.1))
        | inr b ↦ sym a.1 ∙ e ∙ b.1
      ]
    ]

pub chain_join : (dep : ℕ → ℕ → Type 0) (m n a b c : ℕ) → Chain dep m a b → Chain dep n b c → (k : ℕ) → k ≡ m + n → Chain dep k a c
chain_join dep m zero a b c p q k e = let P : ℕ → Type 0 = λ x. Chain dep m a x in let Q : ℕ → Type 0 = λ x. Chain dep x a c in let s : m ≡ k = omega arith in subst Q s (subst P q p)
chain_join dep m (suc n) a b c p q zero e = absurd (omega arith)
chain_join dep m (suc n) a b c p q (suc k) e = (q.0, chain_join dep m n a b q.0 p q.1 k (omega arith), q.2)
