-- The least of some numbers with a shortest cycle.
use Rattle.std.specs.Prelude.{◌≡◌, ℕ, suc, ◌<◌, ◌≤◌, ◌⊎◌, Contains, List}
use Rattle.sw_graph.specs.Levels.{Chain}
use Rattle.sw_graph.specs.declared.shortest_cycle.KnownCycle.{KnownCycle}
use Rattle.sw_graph.specs.Shortest.{IsFewest}

-- the round is the shortest cycle through one of the numbers, and none through another is shorter, nor as short through a lesser one
pub record IsBest (dep : ℕ → ℕ → Type 0) (members : List ℕ) (best : KnownCycle) : Type 0 where
  pub member : Contains members best.start
  pub fewest : IsFewest dep best.start best.start best.length
  pub shortest : (c i : ℕ) → Contains members c → Chain dep (suc i) c c → best.length ≤ suc i
  pub least : (c : ℕ) → Contains members c → Chain dep best.length c c → best.start ≤ c

-- what is known, or a shorter cycle through c, where there is one
pub record IsBetter (dep : ℕ → ℕ → Type 0) (c : ℕ) (known best : KnownCycle) : Type 0 where
  pub fewest : IsFewest dep best.start best.start best.length
  pub shorter : (i : ℕ) → Chain dep (suc i) c c → best.length ≤ suc i
  pub either : (best ≡ known) ⊎ ((best.start ≡ c) × (best.length < known.length))
