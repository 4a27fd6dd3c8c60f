-- Where channels stand in a list, one more at a time.
use Rattle.std.proofs.Common.{◌≡◌, ◌↔◌, ◌⊎◌, ℕ, zero, suc, ◌+◌, ◌<◌, List, [], ◌∷◌, ◌++◌, Contains, Some, length, length-set, get_or, set, refl, sym, ap, ◌∙◌, subst, inl, inr, arith}
use Rattle.std.specs.Prelude.{Vec, slice_get}
use Rattle.std.specs.declared.alloc.Global.{Global}
use Rattle.std.proofs.lemmas.Bool.{cases_eq}
use Rattle.std.proofs.lemmas.List.Elements.{Contains-append_left, Contains-push, Contains-push_cases}
use Rattle.std.proofs.lemmas.Option.{same_Some}
use Rattle.sw_flow.proofs.Listed.{Contains-head}
use Rattle.sw_graph.specs.Reversing.{AreAdded}
use Rattle.sw_graph.specs.Rows.{row}
use Rattle.sw_graph.proofs.Listed.{row_read}
use Rattle.sw_cycle.specs.Positions.{ArePositions}
use Rattle.sw_graph.proofs.RelationSteps.{set_row}

none_in : (i : ℕ) → Contains [] i → ⊥
none_in i h = let lt = h.1 in omega arith

one : (c d : ℕ) → Contains (c ∷ []) d → c ≡ d
one c d (zero, lt, is) = is
one c d (suc k, lt, is) = absurd (omega (arith, lt))

-- ---- one number more in a row

set_other : (rows : List (Vec ℕ Global)) (c d : ℕ) (v : Vec ℕ Global) → (c ≡ d → ⊥) → row (set rows c v) d ≡ row rows d
set_other [] c d v other = refl
set_other (x ∷ rows) zero zero v other = absurd (other refl)
set_other (x ∷ rows) zero (suc d) v other = refl
set_other (x ∷ rows) (suc c) zero v other = refl
set_other (x ∷ rows) (suc c) (suc d) v other = set_other rows c d v (λ e. other (ap suc e))

pub added_at : (rows : List (Vec ℕ Global)) (c n : ℕ) (old new : Vec ℕ Global) → c < length rows → old ≡ get_or rows c old → new.items ≡ old.items ++ n ∷ [] → AreAdded (c ∷ []) n rows (set rows c new)
added_at rows c n old new lt was push =
    let now : row (set rows c new) c ≡ row rows c ++ n ∷ [] = set_row rows c new lt ∙ push ∙ ap (λ (l : List ℕ). l ++ n ∷ []) (sym (row_read rows c old lt was)) in
    record {
      size = length-set rows c new;
      each = λ b d. elim (cases_eq c d) [
        | inl same ↦
            let P : ℕ → Type 0 = λ x. (Contains (row (set rows c new) x) b ↔ (Contains (row rows x) b ⊎ (Contains (c ∷ []) x × (b ≡ n)))) in
            subst P same (
              λ h. elim (Contains-push_cases (row rows c) n b (subst (λ (l : List ℕ). Contains l b) now h)) [
                | inl before ↦ inl before
                | inr last ↦ inr (Contains-head c [], sym last)
              ],
              λ h. subst (λ (l : List ℕ). Contains l b) (sym now) (elim h [
                | inl before ↦ Contains-append_left (row rows c) (n ∷ []) b before
                | inr last ↦ subst (Contains (row rows c ++ n ∷ [])) (sym last.1) (Contains-push (row rows c) n)
              ]),
            )
        | inr other ↦
            let kept = set_other rows c d new other in (
              λ h. inl (subst (λ (l : List ℕ). Contains l b) kept h),
              λ h. elim h [
                | inl before ↦ subst (λ (l : List ℕ). Contains l b) (sym kept) before
                | inr last ↦ absurd (other (one c d last.0))
              ],
            )
      ];
    }

-- ---- one position more

pub positions_none : (channels : List ℕ) (rows : List (Vec ℕ Global)) → ((c : ℕ) → row rows c ≡ []) → ArePositions channels 0 rows
positions_none channels rows empty = λ c i. (λ h. absurd (none_in i (subst (λ (l : List ℕ). Contains l i) (empty c) h)), λ h. let lt = h.0 in absurd (omega arith))

pub positions_more : (channels : List ℕ) (n c : ℕ) (rows rows2 : List (Vec ℕ Global)) → ArePositions channels n rows → slice_get channels n ≡ Some c → AreAdded (c ∷ []) n rows rows2 → ArePositions channels (n + 1) rows2
positions_more channels n c rows rows2 a at b = λ d i. (
  λ h. elim ((b.each i d).0 h) [
    | inl old ↦ let r = (a d i).0 old in let lt = r.0 in (omega arith, r.1)
    | inr new ↦ let same = new.1 in (omega arith, ap (slice_get channels) new.1 ∙ at ∙ ap Some (one c d new.0))
  ],
  λ h. elim (cases_eq i n) [
    | inl same ↦ let is : c ≡ d = same_Some c d (sym at ∙ sym (ap (slice_get channels) same) ∙ h.1) in (b.each i d).1 (inr (subst (λ (x : ℕ). Contains (c ∷ []) x) is (Contains-head c []), same))
    | inr other ↦ let lt = h.0 in (b.each i d).1 (inl ((a d i).1 (omega arith, h.1)))
  ],
)
