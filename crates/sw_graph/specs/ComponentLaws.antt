-- Laws of components, each over any relation.
use Rattle.std.specs.Prelude.{◌≡◌, ◌↔◌, ℕ, Contains, List, [], slice_get, Some}
use Rattle.sw_graph.specs.Levels.{HasCycle}
use Rattle.sw_graph.specs.declared.component.Component.{Component}
use Rattle.sw_graph.specs.Components.{AreComponents, LeadsTo}

-- there are no components exactly where the relation has no cycle
abbrev pub ComponentsAreWhereCyclesAre : (ℕ → ℕ → Type 0) → Type 0
ComponentsAreWhereCyclesAre dep = (components : List Component) → AreComponents dep components → ((components ≡ []) ↔ (HasCycle dep → ⊥))

-- number c is a member of component i
abbrev pub IsIn : List Component → ℕ → ℕ → Type 0
IsIn components c i = (component : Component) × (slice_get components i ≡ Some component) × Contains component.members.items c

-- a number lies on a cycle exactly where it is a member of a component, and no two components have it
abbrev pub CycleMembersAreInOneComponent : (ℕ → ℕ → Type 0) → Type 0
CycleMembersAreInOneComponent dep =
    (components : List Component) → AreComponents dep components → (c : ℕ) → (LeadsTo dep c c ↔ ((i : ℕ) × IsIn components c i)) × ((i j : ℕ) → IsIn components c i → IsIn components c j → i ≡ j)

-- the components of a relation are those of each other one with the same steps
abbrev pub ComponentsCarryOver : (ℕ → ℕ → Type 0) → (ℕ → ℕ → Type 0) → Type 0
ComponentsCarryOver dep same = ((c d : ℕ) → dep c d ↔ same c d) → (components : List Component) → AreComponents dep components → AreComponents same components
