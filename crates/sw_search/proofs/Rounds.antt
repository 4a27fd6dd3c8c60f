-- The channels of a shown cycle, one after the other.
use Rattle.std.proofs.Common.{ℕ, zero, suc, ◌+◌, ◌<◌, List, [], ◌∷◌, ◌++◌, length, get_or, sym, subst, arith}
use Rattle.sw_config.specs.Entries.{Declaration}
use Rattle.sw_graph.specs.Cycles.{IsShownCycle}
use Rattle.sw_graph.specs.Laws.{IsChain, IsCycle}
use Rattle.sw_graph.proofs.Rings.{shown_is_cycle}
use Rattle.sw_cycle.proofs.Shown.{round_here, round_next}
use Rattle.sw_cycle.specs.Cycles.{round}
use Rattle.sw_cycle.specs.Causes.{IsRound}
use Rattle.sw_search.specs.Verdicts.{depends}

-- over any relation, so for cycles however they were found
module _ (dep : ℕ → ℕ → Type 0) where
  step_at : (c : ℕ) (cs : List ℕ) (e : ℕ) → IsChain dep c cs e → (i : ℕ) → i < suc (length cs) → dep (get_or (c ∷ cs) i 0) (get_or (cs ++ e ∷ []) i 0)
  step_at c [] e h zero lt = h
  step_at c [] e h (suc i) lt = absurd (omega arith)
  step_at c (x ∷ xs) e h zero lt = h.0
  step_at c (x ∷ xs) e h (suc i) lt = step_at x xs e h.1 i (omega arith)

  pub goes_round : (cycle : List ℕ) → IsCycle dep cycle → (i : ℕ) → i < length cycle → dep (round cycle i) (round cycle (i + 1))
  goes_round [] h i lt = absurd h
  goes_round (c ∷ cs) h i lt =
      subst (λ (x : ℕ). dep x (round (c ∷ cs) (i + 1))) (sym (round_here (c ∷ cs) i lt)) (subst (λ (y : ℕ). dep (get_or (c ∷ cs) i 0) y) (sym (round_next c cs i lt)) (step_at c cs c h i lt))

  pub some_of : (cycle : List ℕ) → IsCycle dep cycle → 0 < length cycle
  some_of [] h = absurd h
  some_of (c ∷ cs) h = omega arith

  pub some_shown : (cycle : List ℕ) → IsShownCycle dep cycle → 0 < length cycle
  some_shown cycle h = some_of cycle (shown_is_cycle dep cycle h)

pub is_round : (d : Declaration) (cycle : List ℕ) → IsShownCycle (depends d) cycle → IsRound d cycle
is_round d cycle h = goes_round (depends d) cycle (shown_is_cycle (depends d) cycle h)
