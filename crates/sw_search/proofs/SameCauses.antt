-- Chosen causes of one cycle differ in their places alone.
use Rattle.std.proofs.Common.{◌≡◌, ◌∙◌, ℕ, suc, ◌+◌, List, [], ◌∷◌, ◌++◌, ap, arith, inl, inr, length, map, refl, subst, sym}
use Rattle.std.specs.Prelude.{slice_get, Option, Some}
use Rattle.std.proofs.lemmas.Bool.{cases_lt}
use Rattle.sw_topo.specs.Wiring.{out}
use Rattle.sw_topo.specs.declared.place.PlaceEnd.{PlaceEnd}
use Rattle.sw_topo.specs.declared.place.PlaceEnd.TheVariants.{Node}
use Rattle.sw_topo.proofs.Ends.{node_starts}
use Rattle.sw_config.specs.Entries.{Declaration, wiring_of}
use Rattle.sw_flow.specs.declared.place.Place.{Place}
use Rattle.sw_flow.specs.Places.{ends_of}
use Rattle.sw_flow.specs.Ways.{GoesFromStart}
use Rattle.sw_cycle.proofs.Shown.{last_step}
use Rattle.sw_cycle.specs.Cycles.{CauseEntry, ByFlow, ByTarget, IsFlowCause, round}
use Rattle.sw_cycle.specs.Causes.{AreChosen, GoesOn, IsChosenCause}
use Rattle.sw_search.specs.Laws.{without_places}

module _ (d : Declaration) where
  -- the flow of a cause goes on
  goes_on : (i : ℕ) (places : List Place) (c e : ℕ) → IsFlowCause d i places c e → GoesOn d i c e
  goes_on i places c e h =
      let x : Place = h.ends_on.last in
      let y : Place = h.ends_on.next in
      let g : GoesFromStart d h.flow (h.ends_on.before ++ x ∷ y ∷ []) = subst (λ (ps : List Place). GoesFromStart d h.flow ps) h.ends_on.listed h.goes in
      let l = last_step d h.flow h.ends_on.before x y g in
      (x, y, record { flow = h.flow; numbered = h.numbered; place = l.0; goes = l.1; from = h.ends_on.from; to = h.ends_on.to })

  -- a channel starts at one node
  same_node : (t u e : ℕ) → out (ends_of d) t ≡ Some e → out (ends_of d) u ≡ Some e → t ≡ u
  same_node t u e p q =
      let both : ◌≡◌ {A = Option PlaceEnd} (Some (Node t)) (Some (Node u)) = sym (node_starts (wiring_of d) t e p) ∙ node_starts (wiring_of d) u e q in
      cc

  -- chosen causes of one dependency
  same_cause : (a b : CauseEntry) (c e : ℕ) → IsChosenCause d a c e → IsChosenCause d b c e → without_places a ≡ without_places b
  same_cause (ByTarget t) (ByTarget u) c e h k = ap (λ (n : ℕ). ByTarget n) (same_node t u e h.shows.leaves k.shows.leaves)
  same_cause (ByTarget t) (ByFlow j qs) c e h k = absurd (h.first j (goes_on j qs c e k.shows))
  same_cause (ByFlow i ps) (ByTarget u) c e h k = absurd (k.first i (goes_on i ps c e h.shows))
  same_cause (ByFlow i ps) (ByFlow j qs) c e h k = elim (cases_lt i j) [
    | inl less ↦ absurd (k.first i less (goes_on i ps c e h.shows))
    | inr more ↦ elim (cases_lt j i) [
      | inl less ↦ absurd (h.first j less (goes_on j qs c e k.shows))
      | inr both ↦ let same : i ≡ j = omega arith in ap (λ (n : ℕ). ByFlow n []) same
    ]
  ]

same_lists : (xs ys : List CauseEntry) → length xs ≡ length ys
    → ((i : ℕ) (a b : CauseEntry) → slice_get xs i ≡ Some a → slice_get ys i ≡ Some b → without_places a ≡ without_places b)
    → map without_places xs ≡ map without_places ys
same_lists [] [] size same = refl
same_lists [] (y ∷ ys) size same = absurd (omega (arith, size))
same_lists (x ∷ xs) [] size same = absurd (omega (arith, size))
same_lists (x ∷ xs) (y ∷ ys) size same =
    let sizes : length xs ≡ length ys = omega (arith, size) in
    let rest = same_lists xs ys sizes (λ i a b p q. same (suc i) a b p q) in
    let first = same 0 x y refl refl in
    λ i. first i ∷ rest i

pub same_causes : (d : Declaration) (channels : List ℕ) (xs ys : List CauseEntry) → AreChosen d channels xs → AreChosen d channels ys → map without_places xs ≡ map without_places ys
same_causes d channels xs ys h k =
    same_lists xs ys (h.one_each ∙ sym k.one_each) (λ i a b x y. same_cause d a b (round channels i) (round channels (i + 1)) (h.chosen i a x) (k.chosen i b y))
