-- Components of relations with the same steps.
use Rattle.std.proofs.Common.{ℕ, suc, List, [], ◌∷◌, length}
use Rattle.std.specs.Prelude.{slice_index}
use Rattle.sw_graph.specs.Laws.{IsChain, IsCycle}
use Rattle.sw_graph.proofs.Backs.{walks_map}
use Rattle.sw_graph.proofs.Transfers.{chain_map}
use Rattle.sw_graph.specs.declared.component.Component.{Component}
use Rattle.sw_graph.specs.ComponentLaws.{ComponentsCarryOver}
use Rattle.sw_graph.specs.Components.{AreTogether, IsComponent, IsShortest, LeadsTo}
use Rattle.sw_graph.specs.Shortest.{IsFewest, IsNext}

leads_map : (P Q : ℕ → ℕ → Type 0) → ((c d : ℕ) → P c d → Q c d) → (c d : ℕ) → LeadsTo P c d → LeadsTo Q c d
leads_map P Q f c d h = (h.0, chain_map P Q f (suc h.0) c d h.1)

together_map : (P Q : ℕ → ℕ → Type 0) → ((c d : ℕ) → P c d → Q c d) → (c d : ℕ) → AreTogether P c d → AreTogether Q c d
together_map P Q f c d h = (leads_map P Q f c d h.0, leads_map P Q f d c h.1)

chain_along : (P Q : ℕ → ℕ → Type 0) → ((c d : ℕ) → P c d → Q c d) → (c : ℕ) (cs : List ℕ) (d : ℕ) → IsChain P c cs d → IsChain Q c cs d
chain_along P Q f c [] d h = f c d h
chain_along P Q f c (e ∷ es) d h = (f c e h.0, chain_along P Q f e es d h.1)

cycle_map : (P Q : ℕ → ℕ → Type 0) → ((c d : ℕ) → P c d → Q c d) → (cycle : List ℕ) → IsCycle P cycle → IsCycle Q cycle
cycle_map P Q f [] h = h
cycle_map P Q f (c ∷ cs) h = chain_along P Q f c cs c h

fewest_map : (P Q : ℕ → ℕ → Type 0) → ((c d : ℕ) → P c d → Q c d) → ((c d : ℕ) → Q c d → P c d) → (c d n : ℕ) → IsFewest P c d n → IsFewest Q c d n
fewest_map P Q f g c d n h = record {
  some = h.some;
  leads = chain_map P Q f n c d h.leads;
  fewest = λ i k. h.fewest i (chain_map Q P g (suc i) c d k);
}

next_map : (P Q : ℕ → ℕ → Type 0) → ((c d : ℕ) → P c d → Q c d) → ((c d : ℕ) → Q c d → P c d) → (goal c d : ℕ) → IsNext P goal c d → IsNext Q goal c d
next_map P Q f g goal c d h = record {
  member = let m = h.member in (m.0, fewest_map P Q f g c goal (suc m.0) m.1, f c d m.2, chain_map P Q f m.0 d goal m.3);
  least = λ e k. h.least e (k.0, fewest_map Q P g f c goal (suc k.0) k.1, g c e k.2, chain_map Q P g k.0 e goal k.3);
}

shortest_map : (P Q : ℕ → ℕ → Type 0) → ((c d : ℕ) → P c d → Q c d) → ((c d : ℕ) → Q c d → P c d) → (cycle : List ℕ) → IsShortest P cycle → IsShortest Q cycle
shortest_map P Q f g cycle h =
    let x : ℕ = slice_index cycle 0 in
    record {
      closed = cycle_map P Q f cycle h.closed;
      once = h.once;
      shortest = λ c n t k. h.shortest c n (together_map Q P g x c t) (chain_map Q P g (suc n) c c k);
      first = λ c t k. h.first c (together_map Q P g x c t) (chain_map Q P g (length cycle) c c k);
      goes = walks_map (IsNext P x) (IsNext Q x) (λ c d. next_map P Q f g x c d) cycle x h.goes;
    }

component_map : (P Q : ℕ → ℕ → Type 0) → ((c d : ℕ) → P c d → Q c d) → ((c d : ℕ) → Q c d → P c d) → (component : Component) → IsComponent P component → IsComponent Q component
component_map P Q f g component h =
    let x : ℕ = slice_index component.cycle.items 0 in
    record {
      members = record {
        rising = h.members.rising;
        member = λ c. (λ m. together_map P Q f x c ((h.members.member c).0 m), λ t. (h.members.member c).1 (together_map Q P g x c t));
      };
      shortest = shortest_map P Q f g component.cycle.items h.shortest;
    }

pub components_carry_over : (dep same : ℕ → ℕ → Type 0) → ComponentsCarryOver dep same
components_carry_over dep same iff components h =
    let f : (c d : ℕ) → dep c d → same c d = λ c d. (iff c d).0 in
    let g : (c d : ℕ) → same c d → dep c d = λ c d. (iff c d).1 in
    record {
      each = λ k d lt. component_map dep same f g _ (h.each k d lt);
      every = λ c on. h.every c (leads_map same dep g c c on);
      apart = h.apart;
      rising = h.rising;
    }
