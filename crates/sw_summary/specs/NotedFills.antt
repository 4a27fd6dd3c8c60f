-- Fills that are noted while a network's cells make steps: it holds of each state that the cells are the parts of.
use Rattle.std.specs.Prelude.{Bool, List, false, if◌then◌else◌, length, max, nat_eq, slice_index, true, ℕ, ◌<◌, ◌≡◌}
use Rattle.sw_machine.specs.State.{State}
use Rattle.sw_machine.specs.Steps.{Arrive, IsPossible, Leads, Step}
use Rattle.sw_machine.specs.Model.{network_of}
use Rattle.sw_net.specs.Net.{IsNetState, NetView}

-- the fill of channel k, after this step to state t
abbrev pub noted : Step → State → ℕ → ℕ → ℕ
noted (Arrive c) t k fill = if nat_eq k c then max fill (length (t.buffer k)) else fill
noted step t k fill = fill

-- the fills after this step, whichever state it led to of those that the cells are the parts of
pub record AreNoted {R A : Type 0} (v : NetView R A) (step : Step) (before after : List ℕ) : Type 0 where
  pub long : length after ≡ length before
  pub each : (t : State) → IsNetState v t → (k : ℕ) → k < length before → slice_index after k ≡ noted step t k (slice_index before k)

-- from each state of the first the step leads to one of the second, and is noted; or it is possible in none
abbrev pub MakesOrNot : {R A : Type 0} → NetView R A → List ℕ → Step → Bool → NetView R A → List ℕ → Type 0
MakesOrNot v before step true w after =
    ((s : State) → IsNetState v s → (t : State) × Leads (network_of v.declared) s step t × IsNetState w t) × AreNoted w step before after
MakesOrNot v before step false w after = (s : State) → IsNetState v s → IsPossible (network_of v.declared) s step → ⊥
