-- Where numbers rise along each step there is no cycle.
use Rattle.std.proofs.Common.{◌≡◌, ◌∙◌, ◌↔◌, All, Contains, Global, None, Option, Some, Vec, refl, get_or, length, ℕ, zero, suc, ◌<◌, ◌≤◌, List, ap, arith, inl, inr, subst, sym, true, false}
use Rattle.std.specs.Prelude.{IsTrue, slice_get}
use Rattle.std.proofs.lemmas.List.Elements.{All-contains}
use Rattle.std.proofs.lemmas.Option.{slice_get_within}
use Rattle.sw_graph.proofs.Listed.{row_at}
use Rattle.sw_graph.specs.Levels.{Chain, HasCycle}
use Rattle.sw_graph.specs.Rows.{Leads, items_of}
use Rattle.sw_margin.specs.Rising.{LeadsWith, Rise}

-- a step leads from a member
pub leads_in : (rows : List (Vec ℕ Global)) (i d : ℕ) → Leads rows i d → i < length rows
leads_in rows i d leads = by (slice_get rows i) refl leads
  where
    by : (o : Option (Vec ℕ Global)) → slice_get rows i ≡ o → Contains (items_of o) d → i < length rows
    by None is there = absurd (omega (arith, there.1))
    by (Some v) is there = slice_get_within rows i v is

-- from a member to each that its row lists
pub along_row : (number : ℕ → ℕ) (rows : List (Vec ℕ Global)) (i : ℕ) (v : Vec ℕ Global) → i < length rows → v ≡ get_or rows i v → All (λ d. number i < number d) v.items
    → (d : ℕ) → Leads rows i d → number i < number d
along_row number rows i v lt is all d leads =
    let there : Contains v.items d = subst (λ xs. Contains xs d) (row_at rows i v lt ∙ ap (λ (w : Vec ℕ Global). w.items) (sym is)) leads in
    All-contains (λ e. number i < number e) v.items d all there

module _ (number : ℕ → ℕ) (dep : ℕ → ℕ → Type 0) (rise : Rise number dep) where
  never_falls : (n c d : ℕ) → Chain dep n c d → number c ≤ number d
  never_falls zero c d same = omega (arith, ap number same)
  never_falls (suc n) c d chain = omega (arith, never_falls n c chain.0 chain.1, rise chain.0 d chain.2)

  pub no_cycle : HasCycle dep → ⊥
  no_cycle cycle = let below = never_falls cycle.0 cycle.1 cycle.2.0 cycle.2.1 in let step = rise cycle.2.0 cycle.1 cycle.2.2 in omega (arith, below, step)

-- numbers that rise along the steps of the rows and along the further ones
rise_with : (number : ℕ → ℕ) (rows : List (Vec ℕ Global)) (more : List (ℕ × ℕ)) → Rise number (Leads rows) → All (λ step. number step.0 < number step.1) more → Rise number (LeadsWith rows more)
rise_with number rows more rise along c d leads = elim leads [ inl led ↦ rise c d led | inr further ↦ All-contains (λ step. number step.0 < number step.1) more (c, d) along further ]

-- then it is rightly told that there is no cycle
pub told_by_numbers : (number : ℕ → ℕ) (rows : List (Vec ℕ Global)) (more : List (ℕ × ℕ)) → Rise number (Leads rows) → All (λ step. number step.0 < number step.1) more
    → (IsTrue true ↔ (HasCycle (LeadsWith rows more) → ⊥))
told_by_numbers number rows more rise along = (λ told. no_cycle number (LeadsWith rows more) (rise_with number rows more rise along), λ none. refl)

-- where there is a cycle, that is rightly told
pub told_by_circle : (dep : ℕ → ℕ → Type 0) → HasCycle dep → (IsTrue false ↔ (HasCycle dep → ⊥))
told_by_circle dep cycle = (λ told. cc, λ none. absurd (none cycle))
