-- The replay of a list of steps: they are made one after another, from the empty state, up to the first that is refused.
use Rattle.std.specs.Prelude.{◌≡◌, ℕ, ◌+◌, ◌-◌, List, [], ◌∷◌, ◌++◌, length, take, None, Option, Some}
use Rattle.sw_net.specs.Places.{IsUndeclared}
use Rattle.sw_load.specs.History.{KeepsLimit}
use Rattle.sw_machine.specs.Limits.{KeepsLimits}
use Rattle.sw_machine.specs.Network.{Network}
use Rattle.sw_machine.specs.State.{State, empty}
use Rattle.sw_machine.specs.Steps.{IsPossible, Leads, Step}
use Rattle.sw_machine.specs.Model.{network_of}
use Rattle.sw_config.specs.Entries.{Declaration}
use Rattle.sw_schedule.specs.declared.replayed.ReplayEnd.{ReplayEnd}
use Rattle.sw_schedule.specs.declared.replayed.ReplayEnd.TheVariants.{Made, Refused}
use Rattle.sw_schedule.specs.declared.replayed.StepRefusal.{StepRefusal}
use Rattle.sw_schedule.specs.declared.replayed.StepRefusal.TheVariants.{NotEnabled, NotInFlow, OverLimit}
use Rattle.sw_schedule.specs.Reports.{IsTrueOf, Report}

-- in state s, behind these steps, the step is refused, and this is why: that a packet is not declared goes before that a step is not possible,
-- and this before that a limit on unanswered commands would be broken
abbrev pub Refuses : Network → List Step → State → Step → StepRefusal → Type 0
Refuses net before s step NotInFlow = IsUndeclared net step
Refuses net before s step NotEnabled = (IsUndeclared net step → ⊥) × (IsPossible net s step → ⊥)
Refuses net before s step OverLimit = IsPossible net s step × (KeepsLimit net before s step → ⊥)

-- behind these steps the step leads from s to t, and keeps the limits on unanswered commands; or it is refused, and nothing changed
abbrev pub MakesOr : Network → List Step → State → Step → Option StepRefusal → State → Type 0
MakesOr net before s step None t = Leads net s step t × KeepsLimit net before s step
MakesOr net before s step (Some refusal) t = Refuses net before s step refusal × (t ≡ s)

-- behind the steps before, these lead from s to t, one after another, and each keeps the limits on unanswered commands
abbrev pub RunWithin : Network → List Step → State → List Step → State → Type 0
RunWithin net before s [] t = t ≡ s
RunWithin net before s (step ∷ steps) t = (mid : State) × MakesOr net before s step None mid × RunWithin net (before ++ step ∷ []) mid steps t

-- behind the steps before, the first of these lead from s to t, and there the next one, of this number, is refused
pub record StopsAt (net : Network) (before : List Step) (s : State) (steps : List Step) (number : ℕ) (refusal : StepRefusal) (t : State) : Type 0 where
  pub made : List Step
  pub step : Step
  pub others : List Step
  pub parts : steps ≡ made ++ step ∷ others
  pub counted : number ≡ length made + 1
  pub run : RunWithin net before s made t
  pub refused : Refuses net (before ++ made) t step refusal

-- behind the steps before, from s on, these are made so far, to t
abbrev pub Ends : Network → List Step → State → List Step → ReplayEnd → State → Type 0
Ends net before s steps (Made count) t = (count ≡ length steps) × RunWithin net before s steps t
Ends net before s steps (Refused number refusal) t = StopsAt net before s steps number refusal t

-- the replay of the steps on a declared network: how far they are made, and what is true of the state then
pub record IsReplayed (d : Declaration) (steps : List Step) (r : Report) : Type 0 where
  pub state : State
  pub ends : Ends (network_of d) [] (empty (network_of d)) steps r.outcome state
  pub report : IsTrueOf (network_of d) state r

-- the network and the steps determine what the replay tells
abbrev pub ReplaysAreDetermined : Type 0
ReplaysAreDetermined = (d : Declaration) (steps : List Step) (r q : Report) → IsReplayed d steps r → IsReplayed d steps q → r ≡ q

-- the steps of a replay that were made
abbrev pub made_of : List Step → ReplayEnd → List Step
made_of steps (Made count) = steps
made_of steps (Refused number refusal) = take (number - 1) steps

-- the steps that a replay makes keep the limits on unanswered commands
abbrev pub ReplaysKeepLimits : Type 0
ReplaysKeepLimits = (d : Declaration) (steps : List Step) (r : Report) → IsReplayed d steps r → KeepsLimits (network_of d) (made_of steps r.outcome)
