-- The least of the numbers of a list that have a property.
use Rattle.std.proofs.Common.{◌≡◌, ℕ, List, [], ◌∷◌, ◌++◌, Option, Some, None, sym, subst, inl, inr, arith}
use Rattle.std.specs.Prelude.{Contains, min}
use Rattle.std.proofs.lemmas.Bool.{cases_lt}
use Rattle.std.proofs.lemmas.List.Elements.{Contains-append_left, Contains-push, Contains-push_cases}
use Rattle.sw_graph.specs.Walking.{lesser}
use Rattle.sw_graph.specs.Searches.{IsLeastOf}
use Rattle.sw_graph.proofs.Adding.{nothing_in}

module _ (P : ℕ → Type 0) where
  pub least_none : IsLeastOf [] P None
  least_none d k p = nothing_in d k

  pub least_kept : (xs : List ℕ) (e : ℕ) (o : Option ℕ) → IsLeastOf xs P o → (P e → ⊥) → IsLeastOf (xs ++ e ∷ []) P o
  least_kept xs e None h not = λ d k p. elim (Contains-push_cases xs e d k) [ inl old ↦ h d old p | inr s ↦ not (subst P (sym s) p) ]
  least_kept xs e (Some c) h not = record {
    member = (Contains-append_left xs (e ∷ []) c h.member.0, h.member.1);
    least = λ d k. elim (Contains-push_cases xs e d k.0) [ inl old ↦ h.least d (old, k.1) | inr s ↦ absurd (not (subst P (sym s) k.1)) ];
  }

  pub least_more : (xs : List ℕ) (e : ℕ) (o : Option ℕ) → IsLeastOf xs P o → P e → IsLeastOf (xs ++ e ∷ []) P (Some (lesser o e))
  least_more xs e None h p = record {
    member = (Contains-push xs e, p);
    least = λ d k. elim (Contains-push_cases xs e d k.0) [ inl old ↦ absurd (h d old k.1) | inr s ↦ omega arith ];
  }
  least_more xs e (Some c) h p =
      let Q : ℕ → Type 0 = λ x. Contains (xs ++ e ∷ []) x × P x in
      let one : Q c = (Contains-append_left xs (e ∷ []) c h.member.0, h.member.1) in
      let two : Q e = (Contains-push xs e, p) in
      record {
        member = elim (cases_lt c e) [ inl lt ↦ (let s : c ≡ min c e = omega arith in subst Q s one) | inr le ↦ (let s : e ≡ min c e = omega arith in subst Q s two) ];
        least = λ d k. elim (Contains-push_cases xs e d k.0) [ inl old ↦ (let le = h.least d (old, k.1) in omega arith) | inr s ↦ omega arith ];
      }
