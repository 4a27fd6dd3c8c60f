-- How a run grants the outputs of its switches.
use Rattle.std.specs.Prelude.{Bool, Err, IfSome, List, None, Ok, Option, Result, Some, false, length, slice_get, true, ℕ, ◌≡◌}
use Rattle.sw_arb.specs.declared.policy.Policy.{Policy}
use Rattle.sw_cell.specs.Places.{machine_cell}
use Rattle.sw_cell.specs.declared.cell.CellId.{CellId}
use Rattle.sw_config.specs.Entries.{Declaration}
use Rattle.sw_flow.specs.Places.{ends_of}
use Rattle.sw_journal.specs.Asking.{AreAsking}
use Rattle.sw_journal.specs.Choices.{IsNext, IsStepOf}
use Rattle.sw_journal.specs.Record.{CanCommit, JournalView, with_step}
use Rattle.sw_journal.specs.declared.fault.JournalFault.{JournalFault}
use Rattle.sw_journal.specs.declared.fault.JournalFault.TheVariants.{Full, Memory, NotEnabled}
use Rattle.sw_load.specs.History.{packets_of}
use Rattle.sw_machine.specs.Network.{AtSwitch}
use Rattle.sw_machine.specs.Steps.{Fct, Grant, Step}
use Rattle.sw_journal.specs.NetAsking.{IsInput}
use Rattle.sw_journal.specs.Numbers.{Numbers}
use Rattle.sw_run.specs.Arbiters.{PicksAt}
use Rattle.sw_run.specs.declared.turn.Turn.{Turn}
use Rattle.sw_run.specs.declared.turn.Turn.TheVariants.{Idle, Moved, Over, Sent}
use Rattle.sw_topo.specs.Wiring.{partner}
use Rattle.sw_topo.specs.declared.place.PlaceEnd.TheVariants.{Switch}

-- these are the ports to whose inputs the output where channel e starts can be granted by the journal's next step
abbrev pub AreAskers : JournalView → ℕ → ℕ → Type 0
AreAskers j e ports = AreAsking j.declared (packets_of j.load) j.history e ports

-- The output where channel e starts is granted to the input where channel c ends: the output's arbiter picks its port among exactly those that
-- ask, and no other arbiter changes (ECSS-E-ST-50-12C, network layer: arbitration).
pub record IsPicked (j : JournalView) (arbiters : List Policy) (e c : ℕ) (after : List Policy) : Type 0 where
  pub asking : ℕ
  pub ask : AreAskers j e asking
  pub port : ℕ
  pub input : IsInput j.declared e port c
  pub picks : PicksAt arbiters input.output asking port after

-- the step is a grant
abbrev pub is_grant : Step → Bool
is_grant (Grant e c) = true
is_grant step = false

-- a grant is decided by its output's arbiter; another step changes no arbiter
abbrev pub IsDecided : JournalView → List Policy → Step → List Policy → Type 0
IsDecided j arbiters (Grant e c) after = IsPicked j arbiters e c after
IsDecided j arbiters step after = after ≡ arbiters

-- the journal has one step more, which belongs to the link end where channel e starts
pub record HasMoved (j : JournalView) (arbiters : List Policy) (e : ℕ) (k : JournalView) (after : List Policy) : Type 0 where
  pub step : Step
  pub of_end : IsStepOf j e step
  pub made : k ≡ with_step j step
  pub decided : IsDecided j arbiters step after

-- What a turn of a link end does to the history and to the arbiters of its cell. Moved, Sent: it made a step; Idle: it made none, and no
-- arbiter has changed; Over, which is told where the run is over: it made none.
abbrev pub Advances : JournalView → List Policy → ℕ → Turn → JournalView → List Policy → Type 0
Advances j arbiters e Moved k after = HasMoved j arbiters e k after
Advances j arbiters e (Sent at) k after = HasMoved j arbiters e k after
Advances j arbiters e Idle k after = (k.history ≡ j.history) × (after ≡ arbiters)
Advances j arbiters e Over k after = k.history ≡ j.history

-- so it is of the link end at that place of the cell's list; where none stands there, of each: no step is made
abbrev pub AdvancesAt : JournalView → List Policy → List (ℕ × Numbers) → ℕ → Turn → JournalView → List Policy → Type 0
AdvancesAt j arbiters ends place turn k after = (e : ℕ) → IfSome (slice_get ends place) (λ p. p.0 ≡ e) → Advances j arbiters e turn k after

-- the journal has one step more, the grant of the output where channel e starts
pub record HasGranted (j : JournalView) (arbiters : List Policy) (e : ℕ) (k : JournalView) (after : List Policy) : Type 0 where
  pub channel : ℕ
  pub next : IsNext j (Grant e channel)
  pub made : k ≡ with_step j (Grant e channel)
  pub picked : IsPicked j arbiters e channel after

-- where channel e starts at a switch, it is this cell
abbrev pub IsOutputOf : Declaration → CellId → ℕ → Type 0
IsOutputOf d id e = (w out : ℕ) → slice_get (ends_of d) e ≡ Some (Switch w out) → machine_cell id ≡ AtSwitch w

-- What a grant of an output of the cell does. Moved, Sent: it is granted; Idle: no input asks, and nothing has changed; Over, which is told
-- where the run is over: it is not granted, and where the journal is full, no arbiter has changed.
abbrev pub Grants : JournalView → CellId → List Policy → ℕ → Turn → JournalView → List Policy → Type 0
Grants j id arbiters e Moved k after = HasGranted j arbiters e k after
Grants j id arbiters e (Sent at) k after = HasGranted j arbiters e k after
Grants j id arbiters e Idle k after = (IsOutputOf j.declared id e → AreAskers j e 0) × (k ≡ j) × (after ≡ arbiters)
Grants j id arbiters e Over k after = (k ≡ j) × (length j.history ≡ j.limit → after ≡ arbiters)

-- What a call does that is to make a step at the cell. Moved, Sent: it is made; Idle: it may not be the next there, and the journal is the
-- same; Over, which is told where the run is over: it is not made.
abbrev pub Takes : JournalView → CellId → Step → Turn → JournalView → Type 0
Takes j id step Moved k = CanCommit j id step × (k ≡ with_step j step)
Takes j id step (Sent at) k = CanCommit j id step × (k ≡ with_step j step)
Takes j id step Idle k = (CanCommit j id step → ⊥) × (k ≡ j)
Takes j id step Over k = k ≡ j

-- what a turn was in which the journal answered so to a step, which sends something over the link of that link end, or over none
abbrev pub turn_of : Result Unit JournalFault → Option ℕ → Turn
turn_of (Ok done) None = Moved
turn_of (Ok done) (Some at) = Sent at
turn_of (Err NotEnabled) sent = Idle
turn_of (Err Full) sent = Over
turn_of (Err Memory) sent = Over

-- what a call does that is to send the FCT of that link end of the cell, if it is given one
abbrev pub Begins : JournalView → CellId → Option ℕ → Turn → JournalView → Type 0
Begins j id None turn k = k ≡ j
Begins j id (Some end) turn k = Takes j id (Fct (partner end)) turn k
