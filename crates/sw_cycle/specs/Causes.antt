-- Which cause is chosen for each dependency of a cycle.
use Rattle.std.specs.Prelude.{◌≡◌, ℕ, ◌+◌, ◌<◌, List, length, slice_get, Some}
use Rattle.sw_config.specs.Entries.{FlowEntry, Declaration, all_flows}
use Rattle.sw_flow.specs.declared.place.Place.{Place}
use Rattle.sw_flow.specs.Places.{IsPlace}
use Rattle.sw_flow.specs.Ways.{GoesTo}
use Rattle.sw_machine.specs.Places.{IsDependency}
use Rattle.sw_machine.specs.Model.{network_of}
use Rattle.sw_cycle.specs.Cycles.{CauseEntry, IsCause, round, ByTarget, ByFlow}

-- flow i goes on from its place p, on channel c, to the place q, on channel e
pub record IsStep (d : Declaration) (i c e : ℕ) (p q : Place) : Type 0 where
  pub flow : FlowEntry
  pub numbered : slice_get (all_flows d) i ≡ Some flow
  pub place : IsPlace d flow p.channel p.deleted
  pub goes : GoesTo d flow p q
  pub from : p.channel ≡ c
  pub to : q.channel ≡ e

-- flow i goes on from channel c to channel e
abbrev pub GoesOn : Declaration → ℕ → ℕ → ℕ → Type 0
GoesOn d i c e = (p q : Place) × IsStep d i c e p q

-- no flow of a number below n goes on from channel c to channel e
abbrev pub NoneBelow : Declaration → ℕ → ℕ → ℕ → Type 0
NoneBelow d n c e = (i : ℕ) → i < n → GoesOn d i c e → ⊥

-- no flow goes on from channel c to channel e
abbrev pub NoneGoesOn : Declaration → ℕ → ℕ → Type 0
NoneGoesOn d c e = (i : ℕ) → GoesOn d i c e → ⊥

-- a flow comes before those of greater numbers, and each flow before a target
abbrev pub IsFirst : Declaration → CauseEntry → ℕ → ℕ → Type 0
IsFirst d (ByFlow i places) c e = NoneBelow d i c e
IsFirst d (ByTarget t) c e = NoneGoesOn d c e

-- the cause shows that channel c waits for channel e, and no other comes before it
pub record IsChosenCause (d : Declaration) (cause : CauseEntry) (c e : ℕ) : Type 0 where
  pub shows : IsCause d cause c e
  pub first : IsFirst d cause c e

-- each of the channels may wait for the next one, and the last for the first
abbrev pub IsRound : Declaration → List ℕ → Type 0
IsRound d channels = (i : ℕ) → i < length channels → IsDependency (network_of d) (round channels i) (round channels (i + 1))

-- one cause a channel, each the chosen one for its channel and the next
pub record AreChosen (d : Declaration) (channels : List ℕ) (causes : List CauseEntry) : Type 0 where
  pub one_each : length causes ≡ length channels
  pub chosen : (i : ℕ) (cause : CauseEntry) → slice_get causes i ≡ Some cause → IsChosenCause d cause (round channels i) (round channels (i + 1))

-- causes for the first n channels
pub record AreFor (d : Declaration) (channels : List ℕ) (n : ℕ) (causes : List CauseEntry) : Type 0 where
  pub one_each : length causes ≡ n
  pub chosen : (i : ℕ) (cause : CauseEntry) → slice_get causes i ≡ Some cause → IsChosenCause d cause (round channels i) (round channels (i + 1))
