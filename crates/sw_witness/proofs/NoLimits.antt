-- Whether a network has limits on unanswered commands.
use Rattle.std.proofs.Common.{◌≡◌, ◌↔◌, ◌∙◌, ℕ, suc, ◌+◌, ◌<◌, ◌≤◌, Bool, true, false, IsTrue, List, [], ◌∷◌, length, All, Option, Some, None, is_some, sym, ap, refl, arith, ⊎_elim}
use Rattle.std.specs.Prelude.{option_and_then, slice_get}
use Rattle.std.specs.List.{AllByRecursion}
use Rattle.std.proofs.lemmas.Bool.{cases_eq, cases_lt}
use Rattle.std.proofs.lemmas.List.Elements.{All-from_recursion}
use Rattle.std.proofs.lemmas.Option.{same_Some, slice_get_within}
use Rattle.sw_config.proofs.Flows.{All-at}
use Rattle.sw_graph.proofs.Adding.{not_known}
use Rattle.sw_config.specs.Entries.{Declaration, FlowEntry, NodeEntry}
use Rattle.sw_config.specs.Limits.{HasNoLimits, flow_outstanding, outstanding_of}

by_place : {X : Type 0} (P : X → Type 0) (xs : List X) → ((k : ℕ) (x : X) → slice_get xs k ≡ Some x → P x) → AllByRecursion P xs
by_place P [] each = tt
by_place P (x ∷ xs) each = (each 0 x refl, by_place P xs (λ k y at. each (suc k) y at))

all_by_place : {X : Type 0} (P : X → Type 0) (xs : List X) → ((k : ℕ) (x : X) → slice_get xs k ≡ Some x → P x) → All P xs
all_by_place P xs each = All-from_recursion P xs (by_place P xs each)

some_is_not_none : (o : Option ℕ) → is_some o ≡ true → o ≡ None → ⊥
some_is_not_none o is none = let both : false ≡ true = sym (ap is_some none) ∙ is in cc

-- up to one place more
below_next : (k n : ℕ) → k < n + 1 → (k ≡ n → ⊥) → k < n
below_next k n lt ne = ⊎_elim (λ less. less) (λ ge. absurd (ne (omega (arith, lt, ge)))) (cases_lt k n)

-- ---- nodes

abbrev pub NoneOfNodes : List NodeEntry → ℕ → Type 0
NoneOfNodes nodes n = (k : ℕ) → k < n → outstanding_of nodes k ≡ None

pub node_more : (nodes : List NodeEntry) (n : ℕ) (o : Option ℕ) → o ≡ outstanding_of nodes n → is_some o ≡ false → NoneOfNodes nodes n → NoneOfNodes nodes (n + 1)
node_more nodes n o is none before k lt = ⊎_elim
    (λ same. ap (outstanding_of nodes) same ∙ sym is ∙ not_known o none)
    (λ ne. before k (below_next k n lt ne))
    (cases_eq k n)

pub node_limited : (nodes : List NodeEntry) (n : ℕ) (o : Option ℕ) → o ≡ outstanding_of nodes n → is_some o ≡ true → IsTrue false ↔ All (λ (e : NodeEntry). e.outstanding ≡ None) nodes
node_limited nodes n o is some = (λ never. absurd cc, λ all. absurd (some_is_not_none o some (is ∙ by all (slice_get nodes n) refl)))
  where
    by : All (λ (e : NodeEntry). e.outstanding ≡ None) nodes → (o : Option NodeEntry) → slice_get nodes n ≡ o → option_and_then (λ (e : NodeEntry). e.outstanding) o ≡ None
    by all None at = refl
    by all (Some e) at = All-at (λ (x : NodeEntry). x.outstanding ≡ None) nodes n e at all

pub nodes_unlimited : (nodes : List NodeEntry) (n : ℕ) → length nodes ≤ n → NoneOfNodes nodes n → IsTrue true ↔ All (λ (e : NodeEntry). e.outstanding ≡ None) nodes
nodes_unlimited nodes n all none = (
  λ told. all_by_place (λ (e : NodeEntry). e.outstanding ≡ None) nodes (λ k e at.
      let lt = slice_get_within nodes k e at in
      ap (option_and_then (λ (x : NodeEntry). x.outstanding)) (sym at) ∙ none k (omega (arith, lt, all))),
  λ told. refl,
)

-- ---- flows

abbrev pub NoneOfFlows : List FlowEntry → ℕ → Type 0
NoneOfFlows flows n = (k : ℕ) (f : FlowEntry) → k < n → slice_get flows k ≡ Some f → flow_outstanding f ≡ None

pub flow_more : (flows : List FlowEntry) (n : ℕ) (f : FlowEntry) (b : Bool) → slice_get flows n ≡ Some f → b ≡ is_some (flow_outstanding f) → b ≡ false → NoneOfFlows flows n → NoneOfFlows flows (n + 1)
flow_more flows n f b here is none before k g lt at = ⊎_elim
    (λ same.
    let equal : f ≡ g = same_Some f g (sym here ∙ sym (ap (slice_get flows) same) ∙ at) in
    ap flow_outstanding (sym equal) ∙ not_known (flow_outstanding f) (sym is ∙ none))
    (λ ne. before k g (below_next k n lt ne) at)
    (cases_eq k n)

pub flow_limited : (flows : List FlowEntry) (n : ℕ) (f : FlowEntry) (b : Bool) → slice_get flows n ≡ Some f → b ≡ is_some (flow_outstanding f) → b ≡ true → IsTrue false ↔ All (λ (f : FlowEntry). flow_outstanding f ≡ None) flows
flow_limited flows n f b here is some =
    (λ never. absurd cc, λ all. absurd (some_is_not_none (flow_outstanding f) (sym is ∙ some) (All-at (λ (x : FlowEntry). flow_outstanding x ≡ None) flows n f here all)))

pub flows_unlimited : (flows : List FlowEntry) (n : ℕ) → length flows ≤ n → NoneOfFlows flows n → IsTrue true ↔ All (λ (f : FlowEntry). flow_outstanding f ≡ None) flows
flows_unlimited flows n all none = (
  λ told. all_by_place (λ (f : FlowEntry). flow_outstanding f ≡ None) flows (λ k f at. (let lt = slice_get_within flows k f at in none k f (omega (arith, lt, all)) at)),
  λ told. refl,
)

-- ---- both

pub both_unlimited : (d : Declaration) (a b : Bool) → a ≡ true → IsTrue a ↔ All (λ (e : NodeEntry). e.outstanding ≡ None) d.nodes → IsTrue b ↔ All (λ (f : FlowEntry). flow_outstanding f ≡ None) d.flows → IsTrue b ↔ HasNoLimits d
both_unlimited d a b first nodes flows = (λ told. record { nodes = nodes.0 first; flows = flows.0 told }, λ none. flows.1 none.flows)

pub nodes_limited : (d : Declaration) (a : Bool) → a ≡ false → IsTrue a ↔ All (λ (e : NodeEntry). e.outstanding ≡ None) d.nodes → IsTrue a ↔ HasNoLimits d
nodes_limited d a first nodes = (λ told. absurd cc, λ none. nodes.1 none.nodes)
