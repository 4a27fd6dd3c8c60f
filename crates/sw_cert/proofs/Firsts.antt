-- The first refusal of all flows, from the refusal of each.
use Rattle.std.proofs.Common.{◌≡◌, Bool, true, false, cond, ℕ, zero, suc, ◌+◌, ◌<◌, ◌≤◌, List, [], ◌∷◌, length, Option, Some, None, MatchOption, drop, refl, sym, ap, ◌∙◌, subst, arith}
use Rattle.std.specs.Prelude.{slice_get}
use Rattle.std.specs.List.{range_with_len}
use Rattle.std.proofs.lemmas.List.{drop_all}
use Rattle.sw_graph.specs.Found.{IsFirstFound}
use Rattle.sw_topo.specs.Checked.{first_of}
use Rattle.sw_config.specs.Entries.{FlowEntry}
use Rattle.sw_flow.specs.declared.place.Place.{Place}
use Rattle.sw_cert.specs.declared.refusal.Refusal.{Refusal}
use Rattle.sw_cert.specs.Refusals.{by_flow}
use Rattle.sw_cert.specs.Numbered.{refusal_at, refusal_of_both}

-- ---- flow by flow

module _ (r : ℕ → FlowEntry → List Place → Option Refusal) where
  -- what is found first is told of the first flow that has a refusal
  first_told : (o found later : Option Refusal) → MatchOption o (found ≡ later) (λ x. found ≡ Some x) → found ≡ first_of o later
  first_told None found later h = h
  first_told (Some x) found later h = h

  moved_on : (o found later : Option Refusal) (Rest : Type 0) → (Rest → found ≡ later) → MatchOption o Rest (λ x. found ≡ Some x) → MatchOption o (found ≡ later) (λ x. found ≡ Some x)
  moved_on None found later Rest move h = move h
  moved_on (Some x) found later Rest move h = h

  first_by_flow : (j : ℕ) (fs : List FlowEntry) (pss : List (List Place)) (at : ℕ → Option Refusal) (found : Option Refusal) → length pss ≡ length fs
      → ((i : ℕ) (f : FlowEntry) (ps : List Place) → slice_get fs i ≡ Some f → slice_get pss i ≡ Some ps → at (j + i) ≡ r (j + i) f ps)
      → IsFirstFound (λ i o. o ≡ at i) (range_with_len j (length fs)) found → found ≡ by_flow r j fs pss
  first_by_flow j [] pss at found same each h = h
  first_by_flow j (f ∷ fs) [] at found same each h = absurd (omega arith)
  first_by_flow j (f ∷ fs) (ps ∷ pss) at found same each h =
      let here : j + 0 ≡ j = omega arith in
      let next : j + 1 ≡ suc j = omega arith in
      let first : h.0 ≡ r j f ps = h.1 ∙ subst (λ (n : ℕ). at n ≡ r n f ps) here (each 0 f ps refl refl) in
      let rest : IsFirstFound (λ i p. p ≡ at i) (range_with_len (j + 1) (length fs)) found → found ≡ by_flow r (suc j) fs pss =
      λ later. first_by_flow (suc j) fs pss at found (omega arith) (λ i g qs there lists. let moved : j + suc i ≡ suc j + i = omega arith in subst (λ (n : ℕ). at n ≡ r n g qs) moved (each (suc i) g qs there lists))
      (subst (λ (n : ℕ). IsFirstFound (λ i p. p ≡ at i) (range_with_len n (length fs)) found) next later) in
      first_told h.0 found (by_flow r (suc j) fs pss) (moved_on h.0 found (by_flow r (suc j) fs pss) _ rest h.2) ∙ ap (λ o. first_of o (by_flow r (suc j) fs pss)) first

  pub at_here : (fs : List FlowEntry) (pss : List (List Place)) (i : ℕ) (f : FlowEntry) (ps : List Place) → slice_get fs i ≡ Some f → slice_get pss i ≡ Some ps → refusal_at r fs pss i ≡ r i f ps
  at_here fs pss i f ps here there = rw (here, there) refl

  pub is_by_flow : (fs : List FlowEntry) (pss : List (List Place)) (found : Option Refusal) (n : ℕ) → n ≡ length fs → length pss ≡ length fs
      → IsFirstFound (λ i o. o ≡ refusal_at r fs pss i) (range_with_len 0 n) found → found ≡ by_flow r 0 fs pss
  is_by_flow fs pss found n count same h =
      first_by_flow 0 fs pss (refusal_at r fs pss) found same (λ i f ps here there. let number : i ≡ 0 + i = omega arith in subst (λ (k : ℕ). refusal_at r fs pss k ≡ r k f ps) number (at_here fs pss i f ps here there)) (subst (λ (m : ℕ). IsFirstFound (λ i o. o ≡ refusal_at r fs pss i) (range_with_len 0 m) found) count h)

  -- ---- one flow after another

  from_one_on : (j : ℕ) (fs : List FlowEntry) (pss : List (List Place)) (n : ℕ) → n < length fs → length pss ≡ length fs
      → by_flow r j (drop n fs) (drop n pss) ≡ first_of (refusal_of_both (r j) (slice_get fs n) (slice_get pss n)) (by_flow r (suc j) (drop (suc n) fs) (drop (suc n) pss))
  from_one_on j [] pss n lt same = absurd (omega arith)
  from_one_on j (f ∷ fs) [] n lt same = absurd (omega arith)
  from_one_on j (f ∷ fs) (ps ∷ pss) zero lt same = refl
  from_one_on j (f ∷ fs) (ps ∷ pss) (suc n) lt same = from_one_on j fs pss n (omega arith) (omega arith)

  pub one_passed : (fs : List FlowEntry) (pss : List (List Place)) (n : ℕ) (o : Option Refusal) → n < length fs → length pss ≡ length fs → o ≡ refusal_at r fs pss n
      → by_flow r n (drop n fs) (drop n pss) ≡ first_of o (by_flow r (n + 1) (drop (n + 1) fs) (drop (n + 1) pss))
  one_passed fs pss n o lt same is =
      let next : suc n ≡ n + 1 = omega arith in
      from_one_on n fs pss n lt same ∙ ap (λ (k : ℕ). first_of (refusal_at r fs pss n) (by_flow r k (drop k fs) (drop k pss))) next
      ∙ ap (λ (p : Option Refusal). first_of p (by_flow r (n + 1) (drop (n + 1) fs) (drop (n + 1) pss))) (sym is)

  pub all_passed : (fs : List FlowEntry) (pss : List (List Place)) (n : ℕ) → length fs ≤ n → by_flow r n (drop n fs) (drop n pss) ≡ None
  all_passed fs pss n past = ap (λ (l : List FlowEntry). by_flow r n l (drop n pss)) (drop_all n fs past)

-- ---- whether a flow's start is listed

pub unstarted : (b : Bool) (x : Refusal) (o : Option Refusal) → b ≡ false → first_of (cond b None (Some x)) o ≡ Some x
unstarted true x o h = absurd (let bad : true ≡ false = h in cc)
unstarted false x o h = refl

pub started : (b : Bool) (x : Refusal) (o : Option Refusal) → b ≡ true → first_of (cond b None (Some x)) o ≡ o
started true x o h = refl
started false x o h = absurd (let bad : false ≡ true = h in cc)
