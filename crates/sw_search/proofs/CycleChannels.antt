-- The channels of a cyclic network's cycle.
use Rattle.std.proofs.Common.{◌≡◌, ◌∙◌, ℕ, ◌<◌, ap, get_or, length, subst}
use Rattle.std.specs.Prelude.{All}
use Rattle.std.proofs.Math.Nat.{mod-eq_of_lt}
use Rattle.std.proofs.lemmas.List.{get_or_default}
use Rattle.sw_config.specs.Entries.{Declaration}
use Rattle.sw_config.specs.Valid.{IsValid}
use Rattle.sw_flow.specs.Places.{ends_of}
use Rattle.sw_cycle.specs.Cycles.{CycleEntry, round}
use Rattle.sw_search.specs.Verdicts.{IsCyclic}
use Rattle.sw_search.proofs.Rounds.{is_round}
use Rattle.sw_search.proofs.Waits.{waits_within}

pub cycle_within : (d : Declaration) → IsValid d → (cycle : CycleEntry) → IsCyclic d cycle → All (λ c. c < length (ends_of d)) cycle.channels
cycle_within d valid cycle h = λ k c lt.
    let waits = waits_within d valid (round cycle.channels k) _ (is_round d cycle.channels h.shown k lt) in
    let here : round cycle.channels k ≡ get_or cycle.channels k c = ap (λ (i : ℕ). get_or cycle.channels i 0) (mod-eq_of_lt lt) ∙ get_or_default cycle.channels k 0 c lt in
    subst (λ (x : ℕ). x < length (ends_of d)) here waits
