-- The components of a relation between numbers, in which each number leads to each other, and a shortest cycle of each.
use Rattle.std.specs.Prelude.{◌≢◌, ℕ, suc, ◌<◌, ◌≤◌, All, AllPairs, Contains, List, length, slice_index}
use Rattle.sw_graph.specs.Cycles.{Walks}
use Rattle.sw_graph.specs.Laws.{IsCycle}
use Rattle.sw_graph.specs.Levels.{Chain}
use Rattle.sw_graph.specs.Reached.{IsListing}
use Rattle.sw_graph.specs.declared.component.Component.{Component}
use Rattle.sw_graph.specs.Shortest.{IsNext}

-- one or more steps lead from c to d
abbrev pub LeadsTo : (ℕ → ℕ → Type 0) → ℕ → ℕ → Type 0
LeadsTo dep c d = (n : ℕ) × Chain dep (suc n) c d

-- one or more steps lead from c to d, and from d to c
abbrev pub AreTogether : (ℕ → ℕ → Type 0) → ℕ → ℕ → Type 0
AreTogether dep c d = LeadsTo dep c d × LeadsTo dep d c

-- A cycle, and none through a member of its component is shorter. Of those with so few members it goes through the least number, and from
-- there each time on to the least number on a shortest way back.
pub record IsShortest (dep : ℕ → ℕ → Type 0) (cycle : List ℕ) : Type 0 where
  pub closed : IsCycle dep cycle
  pub once : AllPairs (λ c d. c ≢ d) cycle
  pub shortest : (c n : ℕ) → AreTogether dep (slice_index cycle 0) c → Chain dep (suc n) c c → length cycle ≤ suc n
  pub first : (c : ℕ) → AreTogether dep (slice_index cycle 0) c → Chain dep (length cycle) c c → slice_index cycle 0 ≤ c
  pub goes : Walks (IsNext dep (slice_index cycle 0)) cycle (slice_index cycle 0)

-- the members are those of the cycle's component, and it is the shortest cycle to show
pub record IsComponent (dep : ℕ → ℕ → Type 0) (component : Component) : Type 0 where
  pub members : IsListing (AreTogether dep (slice_index component.cycle.items 0)) component.members.items
  pub shortest : IsShortest dep component.cycle.items

-- the components of the numbers below c, as far as these are on cycles
pub record AreComponentsBelow (dep : ℕ → ℕ → Type 0) (c : ℕ) (components : List Component) : Type 0 where
  pub each : All (IsComponent dep) components
  pub every : (d : ℕ) → d < c → LeadsTo dep d d → (component : Component) × Contains components component × Contains component.members.items d
  pub apart : AllPairs (λ p q. (e : ℕ) → Contains p.members.items e → Contains q.members.items e → ⊥) components
  pub rising : AllPairs (λ p q. slice_index p.members.items 0 < slice_index q.members.items 0) components
  pub low : All (λ p. slice_index p.members.items 0 < c) components

-- a number that lies on a cycle is a member of exactly one of the components, which stand in the order of their least members
pub record AreComponents (dep : ℕ → ℕ → Type 0) (components : List Component) : Type 0 where
  pub each : All (IsComponent dep) components
  pub every : (c : ℕ) → LeadsTo dep c c → (component : Component) × Contains components component × Contains component.members.items c
  pub apart : AllPairs (λ p q. (c : ℕ) → Contains p.members.items c → Contains q.members.items c → ⊥) components
  pub rising : AllPairs (λ p q. slice_index p.members.items 0 < slice_index q.members.items 0) components
