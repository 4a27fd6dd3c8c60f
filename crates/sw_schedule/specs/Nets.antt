-- Steps that a network's cells make, and what is told of them: it holds of each state that the cells are the parts of.
use Rattle.std.specs.Prelude.{◌≡◌, ◌⊎◌, ◌≤◌, ◌↔◌, ◌+◌, ◌++◌, ◌∷◌, ℕ, Bool, Err, IsTrue, List, [], None, Ok, Option, Result, Some, false, length, true}
use Rattle.sw_config.specs.Entries.{Declaration}
use Rattle.sw_config.specs.Valid.{IsValid}
use Rattle.sw_machine.specs.Limits.{KeepsLimits}
use Rattle.sw_machine.specs.Packets.{Packet}
use Rattle.sw_machine.specs.Runs.{IsLockedUp, Run}
use Rattle.sw_machine.specs.State.{State, empty}
use Rattle.sw_machine.specs.Steps.{Begin, Step}
use Rattle.sw_machine.specs.Model.{network_of}
use Rattle.sw_net.specs.Net.{IsNetState, NetView}
use Rattle.sw_net.specs.NetFault.{NetFault}
use Rattle.sw_net.specs.NetFault.TheVariants as fault
use Rattle.sw_net.specs.Possible.{Tells}
use Rattle.sw_net.specs.Unanswered.{AreFewBegun, Counts, CountsUnanswered, allows}
use Rattle.sw_schedule.specs.declared.replayed.ReplayEnd.{ReplayEnd}
use Rattle.sw_schedule.specs.declared.replayed.ReplayEnd.TheVariants.{Made, Refused}
use Rattle.sw_schedule.specs.declared.replayed.StepRefusal.{StepRefusal}
use Rattle.sw_schedule.specs.declared.replayed.StepRefusal.TheVariants.{NotEnabled, NotInFlow}
use Rattle.sw_schedule.specs.Replays.{Ends, MakesOr}
use Rattle.sw_schedule.specs.Reports.{AreOutputs, IsTrueOf, Report}

-- the steps lead from the empty state to s, and keep the limits on unanswered commands, which the counts tell
pub record IsAfter (d : Declaration) (before : List Step) (s : State) (c : Counts) : Type 0 where
  pub valid : IsValid d
  pub run : Run (network_of d) (empty (network_of d)) before s
  pub keeps : KeepsLimits (network_of d) before
  pub counts : CountsUnanswered d before s c

-- the steps with the one that was made, if it was
abbrev pub made_with : List Step → Step → Option StepRefusal → List Step
made_with before step None = before ++ step ∷ []
made_with before step (Some refusal) = before

-- behind steps that begin fewer packets than can be counted, from each state of the first the step leads to one of the second, or it is
-- refused, and nothing changed
abbrev pub NetMakesOr : {R A : Type 0} → NetView R A → Counts → Step → Option StepRefusal → NetView R A → Counts → Type 0
NetMakesOr v c step refusal w e =
    (before : List Step) (s : State) → AreFewBegun before → IsNetState v s → IsAfter v.declared before s c
    → (t : State) × MakesOr (network_of v.declared) before s step refusal t × IsNetState w t × IsAfter v.declared (made_with before step refusal) t e

-- what is so behind all the steps, if they were made
abbrev pub IsAfterAll : Declaration → List Step → List Step → ReplayEnd → State → Counts → Type 0
IsAfterAll d before steps (Made count) t e = IsAfter d (before ++ steps) t e
IsAfterAll d before steps (Refused number refusal) t e = Unit {0}

-- if they are 1,000,000 at most with those before, from each state of the first the steps are made so far, to one of the second
abbrev pub NetEnds : {R A : Type 0} → NetView R A → Counts → List Step → ReplayEnd → NetView R A → Counts → Type 0
NetEnds v c steps outcome w e =
    (before : List Step) (s : State) → length before + length steps ≤ 1000000 → IsNetState v s → IsAfter v.declared before s c
    → (t : State) × Ends (network_of v.declared) before s steps outcome t × IsNetState w t × IsAfterAll v.declared before steps outcome t e

-- from the empty state on, the steps are made so far, to a state of the network
abbrev pub EndsFromEmpty : {R A : Type 0} → Declaration → List Step → ReplayEnd → NetView R A → Type 0
EndsFromEmpty d steps outcome w = (t : State) × Ends (network_of d) [] (empty (network_of d)) steps outcome t × IsNetState w t

-- no more steps were made, or tried, than there are
abbrev pub IsWithin : ℕ → ReplayEnd → Type 0
IsWithin count (Made number) = number ≤ count
IsWithin count (Refused number refusal) = number ≤ count

-- whether the network is locked up
abbrev pub TellsLockedUp : {R A : Type 0} → NetView R A → Bool → Type 0
TellsLockedUp v told = (s : State) → IsNetState v s → IsTrue told ↔ IsLockedUp (network_of v.declared) s

-- the packets that came out, by node
abbrev pub AreOutputsOfNet : {R A : Type 0} → NetView R A → List (List Packet) → Type 0
AreOutputsOfNet v all = (s : State) → IsNetState v s → AreOutputs (network_of v.declared) s all

-- what the report tells is true
abbrev pub IsTrueOfNet : {R A : Type 0} → NetView R A → Report → Type 0
IsTrueOfNet v r = (s : State) → IsNetState v s → IsTrueOf (network_of v.declared) s r

-- ---- one step

-- the counts allow the packet that the step begins, if it begins one
abbrev pub allows_step : Declaration → Counts → Step → Bool
allows_step d c (Begin flow cargo end) = allows d c flow
allows_step d c step = true

-- true: the step is possible, and begins a packet that the counts don't allow; false: they allow what it begins, or it is not possible
abbrev pub TellsOverLimit : {R A : Type 0} → NetView R A → Counts → Step → Bool → Type 0
TellsOverLimit v c step true = (allows_step v.declared c step ≡ false) × Tells v step true
TellsOverLimit v c step false = (allows_step v.declared c step ≡ true) ⊎ Tells v step false

-- why the step is refused, if the answer of the network is that; not where memory was wanting
abbrev pub TellsWhy : Result Unit NetFault → Option StepRefusal → Type 0
TellsWhy (Ok done) refusal = refusal ≡ None
TellsWhy (Err fault.NotEnabled) refusal = refusal ≡ Some NotEnabled
TellsWhy (Err fault.NotInFlow) refusal = refusal ≡ Some NotInFlow
TellsWhy (Err fault.Memory) refusal = ⊥
