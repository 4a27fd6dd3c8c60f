-- What is answered of rows, as an answer on dependencies.
use Rattle.std.proofs.Common.{◌≡◌, ℕ, List, length, Result, Ok, Err, Vec, Global, subst}
use Rattle.std.specs.Prelude.{IfOk}
use Rattle.std.specs.declared.alloc.AllocError.{AllocError}
use Rattle.sw_config.specs.Entries.{Declaration}
use Rattle.sw_flow.specs.Places.{ends_of}
use Rattle.sw_graph.specs.declared.answer.Order.{Order}
use Rattle.sw_graph.specs.declared.answer.Order.TheVariants.{Cycle, Levels}
use Rattle.sw_graph.specs.Answers.{Answers}
use Rattle.sw_graph.specs.Cycles.{IsShownCycle}
use Rattle.sw_graph.specs.Levels.{HasCycle, IsLevels}
use Rattle.sw_graph.specs.Rows.{Leads}
use Rattle.sw_graph.proofs.Transfers.{carry_over}
use Rattle.sw_search.specs.Lists.{AreRows}
use Rattle.sw_search.specs.Verdicts.{depends}

pub carried : (d : Declaration) (rows : List (Vec ℕ Global)) → AreRows d rows → (r : Result Order AllocError) → IfOk r (Answers (Leads rows) (length rows)) → IfOk r (Answers (depends d) (length (ends_of d)))
carried d rows h (Ok answer) k = subst (λ (n : ℕ). Answers (depends d) n answer) h.size (carry_over (Leads rows) (depends d) h.exact (length rows) answer k)
carried d rows h (Err e) k = tt

-- the levels or the cycle that were answered
pub levels_of : (dep : ℕ → ℕ → Type 0) (n : ℕ) (order : Order) (levels : Vec ℕ Global) → order ≡ Levels levels → Answers dep n order → (HasCycle dep → ⊥) × IsLevels dep n levels.items
levels_of dep n order levels is answers = subst (Answers dep n) is answers

pub cycle_of : (dep : ℕ → ℕ → Type 0) (n : ℕ) (order : Order) (members : Vec ℕ Global) → order ≡ Cycle members → Answers dep n order → HasCycle dep × IsShownCycle dep members.items
cycle_of dep n order members is answers = subst (Answers dep n) is answers
