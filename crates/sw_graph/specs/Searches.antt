-- What a search along steps knows.
use Rattle.std.specs.Prelude.{◌≡◌, ℕ, suc, ◌<◌, ◌≤◌, ◌⊎◌, Contains, List, MatchOption, None, Option, Some, length, slice_index_or}
use Rattle.sw_graph.specs.Cycles.{IsLeast}
use Rattle.sw_graph.specs.Levels.{Chain}
use Rattle.sw_graph.specs.Shortest.{IsFewest}

-- the count of steps to d, where it is known
abbrev pub steps_to : List (Option ℕ) → ℕ → Option ℕ
steps_to steps d = slice_index_or steps d None

-- those of the numbers ds that had no count of steps have this one, and stand behind the level
pub record AreAdded (ds : List ℕ) (count : ℕ) (steps steps2 : List (Option ℕ)) (level level2 : List ℕ) : Type 0 where
  pub size : length steps2 ≡ length steps
  pub kept : (d j : ℕ) → steps_to steps d ≡ Some j → steps_to steps2 d ≡ Some j
  pub all : (d : ℕ) → Contains ds d → (j : ℕ) × (steps_to steps2 d ≡ Some j)
  pub from : (d j : ℕ) → steps_to steps2 d ≡ Some j → (steps_to steps d ≡ Some j) ⊎ ((j ≡ count) × Contains ds d × Contains level2 d)
  pub added : (d : ℕ) → Contains level2 d → Contains level d ⊎ (steps_to steps2 d ≡ Some count)
  pub stays : (d : ℕ) → Contains level d → Contains level2 d

-- no steps lead from c back to it, if there are no more than so many, but for none at all
abbrev pub NoRound : (ℕ → ℕ → Type 0) → ℕ → ℕ → Type 0
NoRound dep c most = (i : ℕ) → i < most → Chain dep (suc i) c c → ⊥

-- each count is one of ways that there are, and each number to which a way of fewer than n steps leads has its least
pub record AreKnown (ways : ℕ → ℕ → Type 0) (n : ℕ) (steps : List (Option ℕ)) : Type 0 where
  pub sound : (d j : ℕ) → steps_to steps d ≡ Some j → ways j d
  pub least : (d i : ℕ) → i < n → ways i d → (j : ℕ) × (j ≤ i) × (steps_to steps d ≡ Some j)

-- what a search from the start for at most so many steps has found
abbrev pub IsSearch : (ℕ → ℕ → Type 0) → ℕ → ℕ → List (Option ℕ) → Option ℕ → Type 0
IsSearch dep start most steps None = NoRound dep start most
IsSearch dep start most steps (Some n) = (n ≤ most) × IsFewest dep start start n × AreKnown (λ j d. Chain dep j start d) n steps

-- the least of the numbers ds with the property, if one has it
abbrev pub IsLeastOf : List ℕ → (ℕ → Type 0) → Option ℕ → Type 0
IsLeastOf ds P found = MatchOption found ((d : ℕ) → Contains ds d → P d → ⊥) (IsLeast (λ d. Contains ds d × P d))
