-- Cycles of dependencies between channels, each dependency shown by its cause.
use Rattle.std.specs.Prelude.{◌≡◌, ℕ, ◌+◌, ◌%◌, ◌<◌, List, [], ◌∷◌, ◌++◌, length, slice_get, slice_index, Some, true}
use Rattle.sw_topo.specs.Wiring.{out, partner}
use Rattle.sw_config.specs.Entries.{FlowEntry, Declaration, all_flows}
use Rattle.sw_config.specs.Limits.{may_make_wait}
use Rattle.sw_flow.specs.declared.place.Place.{Place}
use Rattle.sw_flow.specs.Places.{ends_of}
use Rattle.sw_flow.specs.Ways.{GoesFromStart}
use Rattle.sw_cycle.specs.declared.cycle.Cause.{Cause}
use Rattle.sw_cycle.specs.declared.cycle.Cause.TheVariants.{Target, Flow}

-- Why a packet on one channel may wait for another: a target that may make others wait, by its node's number, or a flow, by its number (reply
-- flows counted on from the declared ones), with places that it goes over.
pub data CauseEntry : Type 0 where
  ByTarget : (node : ℕ) → CauseEntry
  ByFlow : (flow : ℕ) (places : List Place) → CauseEntry

-- channels, and a cause for the dependency of each on the next, the last one's for that on the first
pub record CycleEntry : Type 0 where
  pub channels : List ℕ
  pub causes : List CauseEntry

abbrev pub cause_of : Cause → CauseEntry
cause_of (Target node) = ByTarget node
cause_of (Flow flow places) = ByFlow flow places.items

-- What comes to node t may have to wait until it has sent a reply, channel c ends there, and channel e starts there: while the target
-- owes as many replies as it may, and sends one on e, it takes nothing from c (this project's choice).
pub record IsTargetCause (d : Declaration) (t c e : ℕ) : Type 0 where
  pub waits : may_make_wait d t ≡ true
  pub leaves : out (ends_of d) t ≡ Some e
  pub enters : c ≡ partner e

-- the last two of the places are on the channels c and e
pub record EndsOn (places : List Place) (c e : ℕ) : Type 0 where
  pub before : List Place
  pub last : Place
  pub next : Place
  pub listed : places ≡ before ++ last ∷ next ∷ []
  pub from : last.channel ≡ c
  pub to : next.channel ≡ e

-- flow i goes over these places from its start on, and its last step is from channel c to channel e
pub record IsFlowCause (d : Declaration) (i : ℕ) (places : List Place) (c e : ℕ) : Type 0 where
  pub flow : FlowEntry
  pub numbered : slice_get (all_flows d) i ≡ Some flow
  pub goes : GoesFromStart d flow places
  pub ends_on : EndsOn places c e

-- the cause shows that a packet on channel c may wait for channel e (Dally and Seitz: channel dependency; targets are this
-- project's choice)
abbrev pub IsCause : Declaration → CauseEntry → ℕ → ℕ → Type 0
IsCause d (ByTarget t) c e = IsTargetCause d t c e
IsCause d (ByFlow i places) c e = IsFlowCause d i places c e

-- channel i of a cycle, counted on from the first behind the last
abbrev pub round : List ℕ → ℕ → ℕ
round channels i = slice_index channels (i % length channels)

-- the cause at this place, if there is one, is a cause for the channel there and the next
abbrev pub IsCausedAt : Declaration → List ℕ → List CauseEntry → ℕ → Type 0
IsCausedAt d channels causes i = (cause : CauseEntry) → slice_get causes i ≡ Some cause → IsCause d cause (round channels i) (round channels (i + 1))

-- there are channels, one cause a channel, and each is a cause for its channel and the next
pub record IsShown (d : Declaration) (cycle : CycleEntry) : Type 0 where
  pub some : 0 < length cycle.channels
  pub one_each : length cycle.causes ≡ length cycle.channels
  pub caused : (i : ℕ) (cause : CauseEntry) → slice_get cycle.causes i ≡ Some cause → IsCause d cause (round cycle.channels i) (round cycle.channels (i + 1))
