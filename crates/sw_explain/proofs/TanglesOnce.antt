-- The tangles of a network have one value.
use Rattle.std.proofs.Common.{◌≡◌, ◌∙◌, ℕ, suc, ◌+◌, ◌<◌, List, Vec, Global, [], ◌∷◌, ap, arith, length, map, refl, subst, sym}
use Rattle.std.specs.List.{AllZip, Contains}
use Rattle.std.specs.Prelude.{AllPairs, codes, slice_index}
use Rattle.std.proofs.lemmas.List.Elements.{All-contains, All-map}
use Rattle.std.proofs.lemmas.List.Kept.{AllPairs-cons}
use Rattle.serde_json.specs.Data.{Data, array, object, string, member, no_members}
use Rattle.serde_json.specs.View.{items_of}
use Rattle.sw_config.specs.Entries.{Declaration}
use Rattle.sw_cycle.specs.Causes.{AreChosen, GoesOn}
use Rattle.sw_cycle.specs.Cycles.{CauseEntry, ByFlow, ByTarget, round}
use Rattle.sw_cycle.specs.Goers.{AreFlows}
use Rattle.sw_search.specs.Tangles.{AreTangles, IsTangle}
use Rattle.sw_search.specs.declared.tangle.Tangle.{Tangle}
use Rattle.sw_flow.proofs.Listed.{Contains-from_map, Contains-map}
use Rattle.sw_graph.specs.Cycles.{Walks}
use Rattle.sw_graph.specs.Laws.{IsChain, IsCycle}
use Rattle.sw_graph.specs.Levels.{Chain}
use Rattle.sw_graph.specs.Reached.{IsListing}
use Rattle.sw_graph.specs.Rows.{row}
use Rattle.sw_json.specs.Simple.{count_value, texts_value}
use Rattle.sw_graph.specs.Components.{AreComponents, AreTogether, IsComponent, IsShortest, LeadsTo}
use Rattle.sw_graph.specs.Shortest.{IsNext}
use Rattle.sw_graph.specs.declared.component.Component.{Component}
use Rattle.sw_graph.proofs.Chains.{chain_cons}
use Rattle.sw_graph.proofs.Grouped.{together_back, together_on}
use Rattle.sw_search.proofs.SameCauses.{same_causes}
use Rattle.sw_flow.proofs.Sorted.{same_sorted}
use Rattle.sw_search.specs.Laws.{without_places}
use Rattle.sw_search.specs.Verdicts.{depends}
use Rattle.sw_explain.specs.ExplainValues.{step_value, step_values, tangle_value, tangles_value}
use Rattle.sw_search.proofs.Cycles.{same_least}
use Rattle.sw_margin.proofs.Lawful.{same_listing}
use Rattle.sw_circles.proofs.OneList.{one_list_of_components, seen}

-- ---- tangles

abbrev items : Vec ℕ Global → List ℕ
items flows = flows.items

-- lists of as many rows with the same items in each
same_rows : (g h : List (Vec ℕ Global)) → length g ≡ length h → ((l : ℕ) → l < length g → row g l ≡ row h l) → map items g ≡ map items h
same_rows [] [] size each = refl
same_rows [] (y ∷ h) size each = absurd (omega arith)
same_rows (x ∷ g) [] size each = absurd (omega arith)
same_rows (x ∷ g) (y ∷ h) size each =
    let first : x.items ≡ y.items = each 0 (omega arith) in
    let rest : map items g ≡ map items h = same_rows g h (omega arith) (λ l lt. each (suc l) (omega arith)) in
    λ i. first i ∷ rest i

module _ (d : Declaration) where
  -- the places that show a cause are not told
  bare_step : (c : ℕ) (cause : CauseEntry) (flows : List ℕ) → step_value d c cause flows ≡ step_value d c (without_places cause) flows
  bare_step c (ByTarget node) flows = refl
  bare_step c (ByFlow flow places) flows = refl

  bare_steps : (cs : List ℕ) (qs : List CauseEntry) (rs : List (List ℕ)) → step_values d cs qs rs ≡ step_values d cs (map without_places qs) rs
  bare_steps [] qs rs = refl
  bare_steps (c ∷ cs) [] rs = refl
  bare_steps (c ∷ cs) (q ∷ qs) [] = refl
  bare_steps (c ∷ cs) (q ∷ qs) (r ∷ rs) = λ i. bare_step c q r i ∷ bare_steps cs qs rs i

  same_flows : (channels : List ℕ) (g h : List (Vec ℕ Global)) → AreFlows d channels g → AreFlows d channels h → map items g ≡ map items h
  same_flows channels g h a b =
      same_rows g h (a.size ∙ sym b.size) (λ l lt. same_row l (omega (arith, a.size)))
    where
      same_row : (l : ℕ) → l < length channels → row g l ≡ row h l
      same_row l within = same_listing (λ n. GoesOn d n (round channels l) (round channels (l + 1))) (row g l) (row h l) (a.each l within) (b.each l within)

  -- the steps of a cycle, whatever shows its causes
  one_list_of_steps : (channels : List ℕ) (qs ps : List CauseEntry) (g h : List (Vec ℕ Global)) → AreChosen d channels qs → AreChosen d channels ps
      → AreFlows d channels g → AreFlows d channels h → step_values d channels qs (map items g) ≡ step_values d channels ps (map items h)
  one_list_of_steps channels qs ps g h a b e f =
      let causes : map without_places qs ≡ map without_places ps = same_causes d channels qs ps a b in
      let flows : map items g ≡ map items h = same_flows channels g h e f in
      bare_steps channels qs (map items g) ∙ ((λ i. step_values d channels (causes i) (flows i)) ∙ sym (bare_steps channels ps (map items h)))

  -- the value of a tangle with so many channels and these steps
  abbrev of_steps : ℕ → List Data → Data
  of_steps count steps = object (member (codes "channels") (count_value count) (member (codes "cycle") (array (items_of steps)) no_members))

  one_tangle : (p q : Component) (t u : Tangle) → seen p ≡ seen q → IsTangle d p t → IsTangle d q u → tangle_value d t ≡ tangle_value d u
  one_tangle p q t u same h k =
      let members : p.members.items ≡ q.members.items = λ i. (same i).0 in
      let count : t.channels ≡ u.channels = h.count ∙ (ap length members ∙ sym k.count) in
      let channels : t.cycle.channels ≡ u.cycle.channels = h.cycle ∙ ((λ i. (same i).1) ∙ sym k.cycle) in
      let chosen : AreChosen d u.cycle.channels t.cycle.causes = subst (λ (cs : List ℕ). AreChosen d cs t.cycle.causes) channels h.chosen in
      let goes : AreFlows d u.cycle.channels t.flows.items = subst (λ (cs : List ℕ). AreFlows d cs t.flows.items) channels h.flows in
      let steps = one_list_of_steps u.cycle.channels t.cycle.causes u.cycle.causes t.flows.items u.flows.items chosen k.chosen goes k.flows in
      (λ i. of_steps (count i) (step_values d (channels i) t.cycle.causes (map items t.flows.items))) ∙ ap (of_steps u.channels) steps

  one_list : (ps qs : List Component) (ts us : List Tangle) → map seen ps ≡ map seen qs → AllZip (IsTangle d) ps ts → AllZip (IsTangle d) qs us
      → map (tangle_value d) ts ≡ map (tangle_value d) us
  one_list [] [] [] [] same h k = refl
  one_list [] [] (t ∷ ts) us same h k = absurd h
  one_list [] [] [] (u ∷ us) same h k = absurd k
  one_list [] (q ∷ qs) ts us same h k = absurd (omega (arith, ap length same))
  one_list (p ∷ ps) [] ts us same h k = absurd (omega (arith, ap length same))
  one_list (p ∷ ps) (q ∷ qs) [] us same h k = absurd h
  one_list (p ∷ ps) (q ∷ qs) (t ∷ ts) [] same h k = absurd k
  one_list (p ∷ ps) (q ∷ qs) (t ∷ ts) (u ∷ us) same h k =
      let first : seen p ≡ seen q = cc in
      let rest : map seen ps ≡ map seen qs = cc in
      λ i. one_tangle p q t u first h.0 k.0 i ∷ one_list ps qs ts us rest h.1 k.1 i

  pub one_tangles_value : (lint told : List (List ℕ)) (ts us : List Tangle) → lint ≡ told → AreTangles d ts → AreTangles d us
      → tangles_value d lint ts ≡ tangles_value d told us
  one_tangles_value lint told ts us same h k =
      let components = one_list_of_components (depends d) h.components k.components h.are k.are in
      let values = one_list h.components k.components ts us components h.told k.told in
      (λ i.
      object (member (codes "kind") (string (codes "cyclic")) (member (codes "lint") (texts_value (same i))
      (member (codes "tangles") (array (items_of (values i))) no_members))))
