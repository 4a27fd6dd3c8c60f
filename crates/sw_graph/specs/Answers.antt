-- What is answered of a relation.
use Rattle.std.specs.Prelude.{ℕ}
use Rattle.sw_graph.specs.declared.answer.Order.{Order}
use Rattle.sw_graph.specs.declared.answer.Order.TheVariants.{Levels, Cycle}
use Rattle.sw_graph.specs.Levels.{HasCycle, IsLevels}
use Rattle.sw_graph.specs.Cycles.{IsShownCycle}

-- the levels where there is no cycle, and else the cycle to show
abbrev pub Answers : (ℕ → ℕ → Type 0) → ℕ → Order → Type 0
Answers dep n (Levels levels) = (HasCycle dep → ⊥) × IsLevels dep n levels.items
Answers dep n (Cycle cycle) = HasCycle dep × IsShownCycle dep cycle.items
