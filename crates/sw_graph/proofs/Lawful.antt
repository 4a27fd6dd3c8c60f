-- The laws of components.
use Rattle.std.proofs.Common.{◌≡◌, ℕ, suc, ◌<◌, List, [], ◌∷◌, length, get_or, refl, sym, ap, ◌∙◌, subst, inl, inr, arith}
use Rattle.std.specs.Prelude.{Contains, slice_get, slice_index, Some}
use Rattle.std.proofs.lemmas.Bool.{cases_eq, cases_lt}
use Rattle.std.proofs.lemmas.List.Elements.{All-contains}
use Rattle.std.proofs.lemmas.Option.{get_or_from_slice_get, slice_get-get_or, slice_get_within}
use Rattle.sw_graph.specs.Laws.{IsChain, IsCycle}
use Rattle.sw_graph.specs.declared.component.Component.{Component}
use Rattle.sw_graph.specs.ComponentLaws.{ComponentsAreWhereCyclesAre, CycleMembersAreInOneComponent, IsIn}
use Rattle.sw_graph.specs.Components.{AreComponents, IsComponent, LeadsTo}
use Rattle.sw_graph.proofs.Adding.{nothing_in}
use Rattle.sw_graph.proofs.Chains.{chain_cons}
use Rattle.sw_graph.proofs.Grouped.{together_back, together_on}

module _ (dep : ℕ → ℕ → Type 0) where
  -- a member of a component leads to itself
  on_cycle : (component : Component) (c : ℕ) → IsComponent dep component → Contains component.members.items c → LeadsTo dep c c
  on_cycle component c h m = let x : ℕ = slice_index component.cycle.items 0 in let t = (h.members.member c).0 m in (together_on dep c x c (together_back dep x c t) t).0

  nothing_found : (components : List Component) → AreComponents dep components → components ≡ [] → (c : ℕ) → LeadsTo dep c c → ⊥
  nothing_found components h none c on = let r = h.every c on in let P : List Component → Type 0 = λ l. Contains l r.0 in nothing_in r.0 (subst P none r.1)

  around : (c : ℕ) (cs : List ℕ) (d : ℕ) → IsChain dep c cs d → LeadsTo dep c d
  around c [] d k = (0, (c, refl, k))
  around c (e ∷ es) d k = let r = around e es d k.1 in (suc r.0, chain_cons dep (suc r.0) c e d k.0 r.1)

  no_component : (components : List Component) → AreComponents dep components → ((c : ℕ) → LeadsTo dep c c → ⊥) → components ≡ []
  no_component [] h none = refl
  no_component (component ∷ components) h none =
      let p : IsComponent dep component = h.each 0 component (omega arith) in
      let x : ℕ = slice_index component.cycle.items 0 in
      absurd (none x (first component.cycle.items p.shortest.closed))
    where
      first : (cycle : List ℕ) → IsCycle dep cycle → LeadsTo dep (slice_index cycle 0) (slice_index cycle 0)
      first [] k = absurd k
      first (c ∷ cs) k = around c cs c k

pub components_are_where_cycles_are : (dep : ℕ → ℕ → Type 0) → ComponentsAreWhereCyclesAre dep
components_are_where_cycles_are dep components h = (
  λ none k. nothing_found dep components h none k.1 (k.0, k.2),
  λ free. no_component dep components h (λ c on. free (on.0, c, on.1)),
)

pub cycle_members_are_in_one_component : (dep : ℕ → ℕ → Type 0) → CycleMembersAreInOneComponent dep
cycle_members_are_in_one_component dep components h c = (
  (
    λ on. let r = h.every c on in (r.1.0, (r.0, slice_get-get_or components r.1.0 r.0 r.1.1 ∙ ap Some r.1.2, r.2)),
    λ k. on_cycle dep (k.1.0) c (All-contains (IsComponent dep) components (k.1.0) h.each (at k.0 (k.1.0) k.1.1)) k.1.2,
  ),
  λ i j a b. elim (cases_lt i j) [
    | inl less ↦ absurd (meets i j a b less)
    | inr past ↦ elim (cases_eq i j) [ inl e ↦ e | inr ne ↦ absurd (meets j i b a (omega arith)) ]
  ],
)
  where
    inside : (i : ℕ) (component : Component) → slice_get components i ≡ Some component → i < length components
    inside i component e = slice_get_within components i component e

    at : (i : ℕ) (component : Component) → slice_get components i ≡ Some component → Contains components component
    at i component e = (i, inside i component e, get_or_from_slice_get components i component component e)

    meets : (i j : ℕ) → IsIn components c i → IsIn components c j → i < j → ⊥
    meets i j a b less =
        let p : get_or components i (a.0) ≡ a.0 = get_or_from_slice_get components i (a.0) (a.0) a.1 in
        let q : get_or components j (a.0) ≡ b.0 = get_or_from_slice_get components j (b.0) (a.0) b.1 in
        let P : Component → Type 0 = λ x. Contains x.members.items c in
        h.apart i j (a.0) less (inside j (b.0) b.1) c (subst P (sym p) a.2) (subst P (sym q) b.2)
