-- Laws of orders, each over any relation.
use Rattle.std.specs.Prelude.{ℕ, ◌<◌, ◌↔◌, ◌⊎◌, List, [], ◌∷◌, slice_index}
use Rattle.sw_graph.specs.declared.answer.Order.{Order}
use Rattle.sw_graph.specs.Answers.{Answers}
use Rattle.sw_graph.specs.Cycles.{IsShownCycle}
use Rattle.sw_graph.specs.Levels.{HasCycle, IsLevels}

-- from c over each of these members to d, each with a step to the next
abbrev pub IsChain : (ℕ → ℕ → Type 0) → ℕ → List ℕ → ℕ → Type 0
IsChain dep c [] d = dep c d
IsChain dep c (e ∷ es) d = dep c e × IsChain dep e es d

-- one or more members, each with a step to the next, and the last to the first
abbrev pub IsCycle : (ℕ → ℕ → Type 0) → List ℕ → Type 0
IsCycle dep [] = ⊥
IsCycle dep (c ∷ cs) = IsChain dep c cs c

-- each step is between two of the n members
abbrev pub IsAmong : (ℕ → ℕ → Type 0) → ℕ → Type 0
IsAmong dep n = (c d : ℕ) → dep c d → (c < n) × (d < n)

-- what is answered of a relation is answered of each other one with the same steps
abbrev pub AnswersCarryOver : (ℕ → ℕ → Type 0) → (ℕ → ℕ → Type 0) → Type 0
AnswersCarryOver dep same = ((c d : ℕ) → dep c d ↔ same c d) → (n : ℕ) (answer : Order) → Answers dep n answer → Answers same n answer

-- the cycle that is shown is a cycle
abbrev pub ShownIsCycle : (ℕ → ℕ → Type 0) → Type 0
ShownIsCycle dep = (cycle : List ℕ) → IsShownCycle dep cycle → IsCycle dep cycle

-- levels rise along each step
abbrev pub LevelsRise : (ℕ → ℕ → Type 0) → Type 0
LevelsRise dep = (n : ℕ) (levels : List ℕ) → IsLevels dep n levels → (c d : ℕ) → c < n → d < n → dep c d → slice_index levels c < slice_index levels d

-- Of a relation between the first n numbers, each step of which is there or not: there are levels exactly where there is no cycle.
abbrev pub LevelsAreWhereNoCycleIs : (ℕ → ℕ → Type 0) → Type 0
LevelsAreWhereNoCycleIs dep =
    (n : ℕ) → IsAmong dep n → ((c d : ℕ) → dep c d ⊎ (dep c d → ⊥)) → ((HasCycle dep → ⊥) ↔ ((levels : List ℕ) × IsLevels dep n levels))
