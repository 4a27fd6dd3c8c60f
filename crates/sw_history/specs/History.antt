-- A history as callers see it.
use Rattle.std.specs.Prelude.{Err, List, Ok, Result, [], length, slice_get, Some, ℕ, ◌++◌, ◌-◌, ◌∷◌, ◌≡◌}
use Rattle.sw_history.specs.Next.{MayFollow}
use Rattle.sw_history.specs.declared.fault.StepFault.{StepFault}
use Rattle.sw_history.specs.declared.fault.StepFault.TheVariants.{Memory, NotEnabled}
use Rattle.sw_load.specs.History.{IsHistory, KeepsLimit, packets_at, packets_of}
use Rattle.sw_load.specs.Laws.{AreDeclared}
use Rattle.sw_load.specs.Load.{LoadEntry}
use Rattle.sw_machine.specs.Begun.{beginnings}
use Rattle.sw_machine.specs.Parts.{link_end_of}
use Rattle.sw_machine.specs.State.{State}
use Rattle.sw_machine.specs.Steps.{Step}
use Rattle.sw_machine.specs.Model.{network_of}
use Rattle.sw_net.specs.Net.{IsNetState, NetView}
use Rattle.sw_net.specs.Unanswered.{Counts, CountsUnanswered}
use Rattle.sw_config.specs.Entries.{Declaration}
use Rattle.sw_config.specs.Valid.{IsValid}

-- what the network declares, the load that it is to send, the steps that were made, and for how many more there is room
pub record HistoryView : Type 0 where
  pub declared : Declaration
  pub load : List LoadEntry
  pub steps : List Step
  pub room : ℕ

-- the steps are a history of the load that leads to s
abbrev pub LeadsTo : HistoryView → State → Type 0
LeadsTo h s = IsHistory (network_of h.declared) (packets_of h.load) h.steps s

-- the step may be the next
abbrev pub IsNext : HistoryView → Step → Type 0
IsNext h step = MayFollow (network_of h.declared) (packets_of h.load) h.steps step

-- the step belongs to the link end where channel e starts, and may be the next
pub record IsNextAt (h : HistoryView) (e : ℕ) (step : Step) : Type 0 where
  pub belongs : link_end_of (network_of h.declared) step ≡ e
  pub next : IsNext h step

-- the network is valid, its flows declare the packets of the load, and there is a state to which the steps lead
pub record IsSoundHistory (h : HistoryView) : Type 0 where
  pub valid : IsValid h.declared
  pub packets : AreDeclared h.declared h.load
  pub state : State
  pub leads : LeadsTo h state

-- the same history but for the steps and the room
abbrev pub with_steps : HistoryView → List Step → ℕ → HistoryView
with_steps h steps room = record { declared = h.declared; load = h.load; steps = steps; room = room }

-- What a call answers that is to add the step. Ok: it was the next, and stands at the end now; NotEnabled: it may not be the next;
-- Memory: it may be the next. After each of the two nothing has changed.
abbrev pub Adds : HistoryView → Step → Result Unit StepFault → HistoryView → Type 0
Adds h step (Ok done) k = IsNext h step × (k ≡ with_steps h (h.steps ++ step ∷ []) (h.room - 1))
Adds h step (Err NotEnabled) k = (IsNext h step → ⊥) × (k ≡ h)
Adds h step (Err Memory) k = IsNext h step × (k ≡ h)

-- where the step begins a packet, the limit on unanswered commands is kept
abbrev pub Keeps : HistoryView → Step → Type 0
Keeps h step = (s : State) → LeadsTo h s → KeepsLimit (network_of h.declared) h.steps s step

-- begun tells by node how many packets it has begun
abbrev pub IsCounted : Declaration → List Step → List ℕ → Type 0
IsCounted d steps begun = (n count : ℕ) → slice_get begun n ≡ Some count → count ≡ length (packets_at (network_of d) n (beginnings steps))

-- the net is in the state after the steps, which are a history of the load; packets begun and commands unanswered are counted
pub record IsKept {R A : Type 0} (net : NetView R A) (h : HistoryView) (begun : List ℕ) (counts : Counts) : Type 0 where
  pub network : net.declared ≡ h.declared
  pub packets : AreDeclared h.declared h.load
  pub all_nodes : length begun ≡ length h.declared.nodes
  pub counted : IsCounted h.declared h.steps begun
  pub state : State
  pub leads : LeadsTo h state
  pub in_net : IsNetState net state
  pub unanswered : CountsUnanswered h.declared h.steps state counts
