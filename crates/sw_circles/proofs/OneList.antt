-- The components of a relation have one list.
use Rattle.std.proofs.Common.{◌≡◌, ◌∙◌, ℕ, suc, ◌<◌, List, Contains, [], ◌∷◌, AllPairs, arith, length, map, refl, subst, sym}
use Rattle.std.specs.Prelude.{slice_index}
use Rattle.std.proofs.lemmas.List.Elements.{All-contains, All-map}
use Rattle.std.proofs.lemmas.List.Kept.{AllPairs-cons}
use Rattle.sw_flow.proofs.Listed.{Contains-from_map, Contains-map}
use Rattle.sw_flow.proofs.Sorted.{same_sorted}
use Rattle.sw_graph.proofs.Chains.{chain_cons}
use Rattle.sw_graph.proofs.Grouped.{together_back, together_on}
use Rattle.sw_graph.specs.Components.{AreComponents, AreTogether, IsComponent, IsShortest, LeadsTo}
use Rattle.sw_graph.specs.Cycles.{Walks}
use Rattle.sw_graph.specs.Laws.{IsChain, IsCycle}
use Rattle.sw_graph.specs.Levels.{Chain}
use Rattle.sw_graph.specs.Reached.{IsListing}
use Rattle.sw_graph.specs.Shortest.{IsNext}
use Rattle.sw_graph.specs.declared.component.Component.{Component}
use Rattle.sw_margin.proofs.Lawful.{same_listing}
use Rattle.sw_search.proofs.Cycles.{same_least}

-- the members of a component, and its shortest cycle
abbrev pub seen : Component → List ℕ × List ℕ
seen component = (component.members.items, component.cycle.items)

module _ (dep : ℕ → ℕ → Type 0) where
  pub chain_of : (c : ℕ) (cs : List ℕ) (d : ℕ) → IsChain dep c cs d → Chain dep (suc (length cs)) c d
  chain_of c [] d k = (c, refl, k)
  chain_of c (e ∷ es) d k = chain_cons dep (suc (length es)) c e d k.0 (chain_of e es d k.1)

  -- from a member on there is one shortest way back to show
  one_walk : (goal c : ℕ) (xs ys : List ℕ) → length xs ≡ length ys → Walks (IsNext dep goal) (c ∷ xs) goal → Walks (IsNext dep goal) (c ∷ ys) goal → xs ≡ ys
  one_walk goal c [] [] size h k = refl
  one_walk goal c [] (y ∷ ys) size h k = absurd (omega arith)
  one_walk goal c (x ∷ xs) [] size h k = absurd (omega arith)
  one_walk goal c (x ∷ xs) (y ∷ ys) size h k =
      let same : x ≡ y = same_least _ x y h.0 k.0 in
      let moved : Walks (IsNext dep goal) (x ∷ ys) goal = subst (λ (z : ℕ). Walks (IsNext dep goal) (z ∷ ys) goal) (sym same) k.1 in
      let rest : xs ≡ ys = one_walk goal x xs ys (omega arith) h.1 moved in
      λ i. same i ∷ rest i

  -- members that lead to each other have one shortest cycle to show
  one_cycle : (xs ys : List ℕ) → IsShortest dep xs → IsShortest dep ys → AreTogether dep (slice_index xs 0) (slice_index ys 0) → xs ≡ ys
  one_cycle [] ys h k together = absurd h.closed
  one_cycle (x ∷ xs) [] h k together = absurd k.closed
  one_cycle (x ∷ xs) (y ∷ ys) h k together =
      let back : AreTogether dep y x = together_back dep x y together in
      let of_x : Chain dep (suc (length xs)) x x = chain_of x xs x h.closed in
      let of_y : Chain dep (suc (length ys)) y y = chain_of y ys y k.closed in
      let size : length xs ≡ length ys = omega (arith, h.shortest y (length ys) together of_y, k.shortest x (length xs) back of_x) in
      let also_y : Chain dep (suc (length xs)) y y = subst (λ (n : ℕ). Chain dep (suc n) y y) (sym size) of_y in
      let also_x : Chain dep (suc (length ys)) x x = subst (λ (n : ℕ). Chain dep (suc n) x x) size of_x in
      let same : x ≡ y = omega (arith, h.first y together also_y, k.first x back also_x) in
      let moved : Walks (IsNext dep x) (x ∷ ys) x = subst (λ (z : ℕ). Walks (IsNext dep z) (z ∷ ys) z) (sym same) k.goes in
      let rest : xs ≡ ys = one_walk x x xs ys size h.goes moved in
      λ i. same i ∷ rest i

  -- components that have a member in common are one component
  one_component : (p q : Component) (c : ℕ) → IsComponent dep p → IsComponent dep q → Contains p.members.items c → Contains q.members.items c → seen p ≡ seen q
  one_component p q c h k in_p in_q =
      let x : ℕ = slice_index p.cycle.items 0 in
      let y : ℕ = slice_index q.cycle.items 0 in
      let to_c : AreTogether dep x c = (h.members.member c).0 in_p in
      let from_c : AreTogether dep c y = together_back dep y c ((k.members.member c).0 in_q) in
      let together : AreTogether dep x y = together_on dep x c y to_c from_c in
      let moved : IsListing (AreTogether dep x) q.members.items = record {
        rising = k.members.rising;
        member = λ n. (λ m. together_on dep x y n together ((k.members.member n).0 m), λ t. (k.members.member n).1 (together_on dep y x n (together_back dep x y together) t));
      } in
      let members : p.members.items ≡ q.members.items = same_listing (AreTogether dep x) p.members.items q.members.items h.members moved in
      let cycle : p.cycle.items ≡ q.cycle.items = one_cycle p.cycle.items q.cycle.items h.shortest k.shortest together in
      λ i. (members i, cycle i)

  around : (cycle : List ℕ) → IsCycle dep cycle → LeadsTo dep (slice_index cycle 0) (slice_index cycle 0)
  around [] h = absurd h
  around (c ∷ cs) h = (length cs, chain_of c cs c h)

  -- what is in the one list is in the other
  component_in : (ps qs : List Component) → AreComponents dep ps → AreComponents dep qs → (w : List ℕ × List ℕ) → Contains (map seen ps) w → Contains (map seen qs) w
  component_in ps qs h k w there =
      let from = Contains-from_map seen ps w there in
      let p : Component = from.0 in
      let is : IsComponent dep p = All-contains (IsComponent dep) ps p h.each from.1 in
      let x : ℕ = slice_index p.cycle.items 0 in
      let on : LeadsTo dep x x = around p.cycle.items is.shortest.closed in
      let found = k.every x on in
      let also : IsComponent dep found.0 = All-contains (IsComponent dep) qs found.0 k.each found.1 in
      let same : seen found.0 ≡ seen p = one_component found.0 p x also is found.2 ((is.members.member x).1 (on, on)) in
      subst (λ (v : List ℕ × List ℕ). Contains (map seen qs) v) (same ∙ from.2) (Contains-map seen qs found.0 found.1)

  -- the one comes before the other
  abbrev IsEarlier : List ℕ × List ℕ → List ℕ × List ℕ → Type 0
  IsEarlier v w = slice_index v.0 0 < slice_index w.0 0

  in_order : (ps : List Component) → AllPairs (λ (p q : Component). IsEarlier (seen p) (seen q)) ps → AllPairs IsEarlier (map seen ps)
  in_order [] h = λ i j w before within. absurd (omega (arith, within))
  in_order (p ∷ ps) h =
      AllPairs-cons IsEarlier (seen p) (map seen ps)
      (All-map (IsEarlier (seen p)) seen ps (λ k d lt. h 0 (suc k) d (omega arith) (omega arith)))
      (in_order ps (λ i j d lt low. h (suc i) (suc j) d (omega arith) (omega arith)))

  pub one_list_of_components : (ps qs : List Component) → AreComponents dep ps → AreComponents dep qs → map seen ps ≡ map seen qs
  one_list_of_components ps qs h k =
      same_sorted IsEarlier (λ v w a b. omega arith) (map seen ps) (map seen qs) (in_order ps h.rising) (in_order qs k.rising) (component_in ps qs h k) (component_in qs ps k h)
