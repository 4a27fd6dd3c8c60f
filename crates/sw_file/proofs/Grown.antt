-- A walk that reads one entry a step and adds it to what was read before.
use Rattle.std.proofs.Common.{◌≡◌, ℕ, zero, suc, ◌+◌, List, [], ◌∷◌, length, take, Some, Result, Ok, refl, sym, ap, ◌∙◌, arith}
use Rattle.std.specs.List.{fold}
use Rattle.std.specs.Prelude.{slice_get}
use Rattle.sw_text.specs.declared.fault.TextFault.{TextFault}
use Rattle.sw_text.specs.Gives.{◌>>=◌, walk_from}
use Rattle.sw_text.proofs.Results.{bind_ok}

module _ {S A X : Type 0} (step : ℕ → S → X → Result S TextFault) (read : ℕ → S → X → Result A TextFault) (add : S → A → S) (is : (i : ℕ) (s : S) (x : X) → step i s x ≡ (read i s x >>= λ e. Ok (add s e))) where
  -- the entries, each read after those before it
  abbrev pub Entries : ℕ → S → List X → List A → Type 0
  Entries k s [] [] = Unit {0}
  Entries k s [] (e ∷ es) = ⊥
  Entries k s (x ∷ xs) [] = ⊥
  Entries k s (x ∷ xs) (e ∷ es) = (read k s x ≡ Ok e) × Entries (suc k) (add s e) xs es

  one_entry : (k : ℕ) (s t : S) (x : X) → step k s x ≡ Ok t → (e : A) × (read k s x ≡ Ok e) × (add s e ≡ t)
  one_entry k s t x well =
      let parts = bind_ok (read k s x) (λ e. Ok (add s e)) t (sym (is k s x) ∙ well) in
      (parts.0, parts.1, cc)

  pub grown_from : (k : ℕ) (s t : S) (xs : List X) → walk_from step k s xs ≡ Ok t → (es : List A) × (t ≡ fold add s es) × Entries k s xs es
  grown_from k s t [] well = ([], cc, tt)
  grown_from k s t (x ∷ xs) well =
      let first = bind_ok (step k s x) (λ u. walk_from step (suc k) u xs) t well in
      let entry = one_entry k s first.0 x first.1 in
      let rest = grown_from (suc k) (add s entry.0) t xs (rw entry.2 first.2) in
      (entry.0 ∷ rest.0, rest.1, (entry.1, rest.2))

  pub as_many : (k : ℕ) (s : S) (xs : List X) (es : List A) → Entries k s xs es → length es ≡ length xs
  as_many k s [] [] all = refl
  as_many k s [] (e ∷ es) all = absurd all
  as_many k s (x ∷ xs) [] all = absurd all
  as_many k s (x ∷ xs) (e ∷ es) all = ap suc (as_many (suc k) (add s e) xs es all.1)

  pub entry_at : (k : ℕ) (s : S) (xs : List X) (es : List A) → Entries k s xs es → (i : ℕ) (x : X) (e : A) → slice_get xs i ≡ Some x → slice_get es i ≡ Some e → read (k + i) (fold add s (take i es)) x ≡ Ok e
  entry_at k s [] [] all i x e here there = absurd cc
  entry_at k s [] (f ∷ es) all i x e here there = absurd all
  entry_at k s (y ∷ xs) [] all i x e here there = absurd all
  entry_at k s (y ∷ xs) (f ∷ es) all zero x e here there =
      let z : k + 0 ≡ k = omega arith in
      let same : y ≡ x = cc in
      let alike : f ≡ e = cc in
      rw (z, ← same, ← alike) all.0
  entry_at k s (y ∷ xs) (f ∷ es) all (suc i) x e here there =
      let shifted : k + suc i ≡ suc k + i = omega arith in
      rw shifted (entry_at (suc k) (add s f) xs es all.1 i x e here there)
