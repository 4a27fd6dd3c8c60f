-- The first steps of flows from each channel of a round to the next one.
use Rattle.std.specs.Prelude.{◌≡◌, ℕ, ◌+◌, ◌<◌, ◌++◌, ◌∷◌, [], Contains, List, MatchOption, None, Option, Some, length, set, slice_index_or}
use Rattle.sw_config.specs.Entries.{FlowEntry, Declaration}
use Rattle.sw_flow.specs.declared.place.Place.{Place}
use Rattle.sw_flow.specs.Places.{Follows}
use Rattle.sw_flow.specs.Ways.{GoesTo}
use Rattle.sw_cycle.specs.Cycles.{round}
use Rattle.sw_cycle.specs.declared.steps.PlaceStep.{PlaceStep}
use Rattle.sw_cycle.specs.Causes.{IsStep, NoneBelow}

-- a step from channel c to channel e, of the first flow that has one
pub record IsFirstStep (d : Declaration) (c e : ℕ) (s : PlaceStep) : Type 0 where
  pub step : IsStep d s.flow c e s.last s.next
  pub first : NoneBelow d s.flow c e

-- for each channel of the round and the next one such a step, and none where `missing` holds of the two
pub record AreFirst (d : Declaration) (missing : ℕ → ℕ → Type 0) (channels : List ℕ) (steps : List (Option PlaceStep)) : Type 0 where
  pub size : length steps ≡ length channels
  pub each : (i : ℕ) → i < length channels → MatchOption (slice_index_or steps i None) (missing (round channels i) (round channels (i + 1))) (IsFirstStep d (round channels i) (round channels (i + 1)))

-- from none of these places the flow goes on from channel c to channel e
abbrev pub NoneFrom : Declaration → FlowEntry → List Place → ℕ → ℕ → Type 0
NoneFrom d f places c e = (p : Place) (m : ℕ) → Contains places p → p.channel ≡ c → Follows d f p.channel p.deleted e m → ⊥

-- neither a flow below n goes on from channel c to channel e, nor flow f from one of these places
abbrev pub NoneYet : Declaration → ℕ → FlowEntry → List Place → ℕ → ℕ → Type 0
NoneYet d n f places c e = NoneBelow d n c e × NoneFrom d f places c e

-- flow n goes on from place p, on channel c, to channel e by this step
pub record IsTaken (d : Declaration) (n : ℕ) (f : FlowEntry) (p : Place) (c e : ℕ) (s : PlaceStep) : Type 0 where
  pub flow : s.flow ≡ n
  pub last : s.last ≡ p
  pub from : p.channel ≡ c
  pub to : s.next.channel ≡ e
  pub goes : GoesTo d f p s.next

-- what is known after place p: the step that was found before, else that of flow n from there
abbrev pub IsStepAfter : Declaration → ℕ → FlowEntry → Place → ℕ → ℕ → Option PlaceStep → Option PlaceStep → Type 0
IsStepAfter d n f p c e (Some s) found = found ≡ Some s
IsStepAfter d n f p c e None found = MatchOption found (p.channel ≡ c → (m : ℕ) → Follows d f p.channel p.deleted e m → ⊥) (IsTaken d n f p c e)

-- at position i of the round the step that is known after place p is stored
pub record IsNotedAt (d : Declaration) (n : ℕ) (f : FlowEntry) (p : Place) (channels : List ℕ) (i : ℕ) (steps steps2 : List (Option PlaceStep)) : Type 0 where
  pub found : Option PlaceStep
  pub after : IsStepAfter d n f p (round channels i) (round channels (i + 1)) (slice_index_or steps i None) found
  pub stored : steps2 ≡ set steps i found

-- the steps that are first so far are so after place p of flow f too
abbrev pub AreNoted : Declaration → ℕ → FlowEntry → Place → List ℕ → List (Option PlaceStep) → List (Option PlaceStep) → Type 0
AreNoted d n f p channels steps steps2 = (places : List Place) → AreFirst d (NoneYet d n f places) channels steps → AreFirst d (NoneYet d n f (places ++ p ∷ [])) channels steps2
