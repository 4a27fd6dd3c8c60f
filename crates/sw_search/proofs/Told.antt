-- Tangles, one after another.
use Rattle.std.proofs.Common.{ℕ, List}
use Rattle.sw_config.specs.Entries.{Declaration}
use Rattle.sw_cycle.specs.Causes.{IsRound}
use Rattle.sw_graph.specs.Laws.{IsCycle}
use Rattle.sw_search.specs.Verdicts.{depends}
use Rattle.sw_search.proofs.Rounds.{goes_round}

-- each channel of a cycle may wait for the next one
pub is_round : (d : Declaration) (cycle : List ℕ) → IsCycle (depends d) cycle → IsRound d cycle
is_round d cycle h = goes_round (depends d) cycle h
