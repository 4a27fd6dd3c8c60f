-- The rows of the links, flow by flow.
use Rattle.std.proofs.Common.{◌≡◌, ℕ, ◌+◌, ◌≤◌, Bool, cond, List, [], ◌∷◌, ◌++◌, length, Some, refl, sym, ap, ◌∙◌, subst, inl, inr, arith}
use Rattle.std.specs.Prelude.{Vec, slice_get}
use Rattle.std.specs.declared.alloc.Global.{Global}
use Rattle.std.proofs.lemmas.Bool.{cases_Bool, cases_eq, false≢true}
use Rattle.std.proofs.lemmas.Option.{same_Some, slice_get_within}
use Rattle.sw_config.specs.Entries.{FlowEntry, Declaration, all_flows}
use Rattle.sw_graph.specs.Reversing.{IsRowSet}
use Rattle.sw_graph.specs.Rows.{row}
use Rattle.sw_search.proofs.AllGoing.{First, first_all, first_kept, first_more, first_none}
use Rattle.sw_margin.specs.Losses.{AreLosses, IsLost, NeedsLink}
use Rattle.sw_graph.specs.Rounds.{is_marked}
use Rattle.sw_margin.specs.Needs.{AreAdded, AreLossesOf, AreNeeded, row_after}

-- ---- one flow

pub added_none : (marks : List Bool) (flow : ℕ) (g : List (Vec ℕ Global)) → AreAdded marks flow 0 g g
added_none marks flow g = record { size = refl; added = λ l lt. absurd (omega arith); others = λ l past. refl }

pub added_more : (marks : List Bool) (flow k : ℕ) (needed : Bool) (g g1 g2 : List (Vec ℕ Global)) → needed ≡ is_marked marks k → AreAdded marks flow k g g1
    → IsRowSet g1 k (cond needed (row g1 k ++ flow ∷ []) (row g1 k)) g2 → AreAdded marks flow (k + 1) g g2
added_more marks flow k needed g g1 g2 is a s = record {
  size = s.size ∙ a.size;
  added = λ l lt. elim (cases_eq l k) [
    | inl same ↦
        let old : row g1 k ≡ row g k = a.others k (λ less. omega arith) in
        let here : row g2 k ≡ row_after marks flow g k = s.set ∙ ap (λ (r : List ℕ). cond needed (r ++ flow ∷ []) r) old ∙ ap (λ b. cond b (row g k ++ flow ∷ []) (row g k)) is in
        let P : ℕ → Type 0 = λ x. row g2 x ≡ row_after marks flow g x in
        subst P (sym same) here
    | inr other ↦ s.others l other ∙ a.added l (omega arith)
  ];
  others = λ l past. s.others l (λ same. past (omega arith)) ∙ a.others l (λ less. past (omega arith));
}

-- ---- flow by flow

module _ (d : Declaration) where
  pub losses_begun : (g : List (Vec ℕ Global)) (n : ℕ) → n ≡ length d.links → length g ≡ n → ((l : ℕ) → row g l ≡ []) → AreLossesOf d 0 g
  losses_begun g n long size none = record {
    size = size ∙ long;
    each = λ l lt. let Q : List ℕ → Type 0 = λ r. First (IsLost d l) 0 r in subst Q (sym (none l)) (first_none (IsLost d l));
  }

  same_flow : (n : ℕ) (f : FlowEntry) → slice_get (all_flows d) n ≡ Some f → (l : ℕ) → IsLost d l n → NeedsLink d f l
  same_flow n f numbered l lost =
      let is : lost.flow ≡ f = same_Some lost.flow f (sym lost.numbered ∙ numbered) in
      subst (λ (x : FlowEntry). NeedsLink d x l) is lost.needs

  pub losses_more : (n : ℕ) (f : FlowEntry) (marks : List Bool) (g g2 : List (Vec ℕ Global)) → slice_get (all_flows d) n ≡ Some f → AreNeeded d f marks → AreLossesOf d n g → AreAdded marks n (length marks) g g2 → AreLossesOf d (n + 1) g2
  losses_more n f marks g g2 numbered needed b a = record {
    size = a.size ∙ b.size;
    each = λ l lt.
        let size = needed.size in
        let is : row g2 l ≡ row_after marks n g l = a.added l (omega arith) in
        let Q : List ℕ → Type 0 = λ r. First (IsLost d l) (n + 1) r in
        subst Q (sym is) (elim (cases_Bool (is_marked marks l)) [
          | inl on ↦ rw on (first_more (IsLost d l) n (row g l) (b.each l lt) (record { flow = f; numbered = numbered; needs = (needed.each l).0 on }))
          | inr off ↦ rw off (first_kept (IsLost d l) n (row g l) (b.each l lt) (λ lost. let on = (needed.each l).1 (same_flow n f numbered l lost) in absurd (false≢true (sym off ∙ on))))
        ]);
  }

  pub losses_all : (n : ℕ) (g : List (Vec ℕ Global)) → length (all_flows d) ≤ n → AreLossesOf d n g → AreLosses d g
  losses_all n g all b = record {
    size = b.size;
    each = λ l lt. first_all (IsLost d l) n (row g l) (λ i lost. (let within = slice_get_within (all_flows d) i lost.flow lost.numbered in omega arith)) (b.each l lt);
  }
