-- The places of a flow: where its packets can be, and with how many of their address bytes deleted.
use Rattle.std.specs.Prelude.{◌≡◌, ℕ, ◌+◌, ◌<◌, List, length, slice_get, slice_index, Option, Some, Contains, AllPairs, ◌⊎◌, ◌↔◌, unwrap_or, if◌then◌else◌}
use Rattle.sw_config.specs.PlaceEnd.{PlaceEnd}
use Rattle.sw_config.specs.PlaceEnd.TheVariants.{Switch}
use Rattle.sw_config.specs.Wiring.{out, partner}
use Rattle.sw_config.specs.Look.{Look}
use Rattle.sw_config.specs.Looks.{NamesOutput}
use Rattle.sw_config.specs.Entries.{FlowEntry, Declaration, look_at, wiring_of, all_flows}
use Rattle.sw_flow.specs.declared.place.Place.{Place}

-- where each channel starts
abbrev pub ends_of : Declaration → List PlaceEnd
ends_of d = (wiring_of d).ends

-- where channel c ends: where the other channel of its link starts
abbrev pub end_of : Declaration → ℕ → Option PlaceEnd
end_of d c = slice_get (ends_of d) (partner c)

-- the channel that starts at node n
abbrev pub out_at : Declaration → ℕ → ℕ
out_at d n = unwrap_or (out (ends_of d) n) 0

-- where the flow starts, with no byte deleted
abbrev pub flow_start : Declaration → FlowEntry → Place
flow_start d f = record { channel = out_at d f.from; deleted = 0 }

-- what the leading byte names at switch s, where k address bytes are deleted (ECSS-E-ST-50-12C, network layer: packet addressing)
abbrev pub look_after : Declaration → FlowEntry → ℕ → ℕ → Look
look_after d f s k = look_at d.switches s (slice_index f.address k)

-- how many address bytes are deleted behind a switch
abbrev pub deleted_behind : Look → ℕ → ℕ
deleted_behind look k = if look.delete then k + 1 else k

-- One step of a flow. Channel c ends at a switch, where packets arrive with k address bytes deleted and at least one left; the
-- leading one names channel e, and there m address bytes are deleted.
pub record Follows (d : Declaration) (f : FlowEntry) (c k e m : ℕ) : Type 0 where
  pub switch : ℕ
  pub port : ℕ
  pub ends : end_of d c ≡ Some (Switch switch port)
  pub bytes_left : k < length f.address
  pub named : NamesOutput (ends_of d) switch (look_after d f switch k) e
  pub deleted : m ≡ deleted_behind (look_after d f switch k) k

-- The places of a flow, as channels with counts of deleted address bytes: the least set that holds the channel of the node where
-- the flow starts, with no byte deleted, and what follows a place by one step.
pub data IsPlace (d : Declaration) (f : FlowEntry) : ℕ → ℕ → Type 0 where
  start : {c : ℕ} → out (ends_of d) f.from ≡ Some c → IsPlace d f c 0
  next : {c k e m : ℕ} → IsPlace d f c k → Follows d f c k e m → IsPlace d f e m

-- places are ordered by channel, then by the count of deleted bytes
abbrev pub IsBefore : Place → Place → Type 0
IsBefore p q = (p.channel < q.channel) ⊎ ((p.channel ≡ q.channel) × (p.deleted < q.deleted))

-- the list has the places of the flow, and no others, in order
pub record IsPlaceList (d : Declaration) (f : FlowEntry) (places : List Place) : Type 0 where
  pub in_order : AllPairs IsBefore places
  pub member : (p : Place) → Contains places p ↔ IsPlace d f p.channel p.deleted

-- the list has the places of flow i, reply flows counted on from the declared ones
pub record IsPlacesOf (d : Declaration) (i : ℕ) (places : List Place) : Type 0 where
  pub flow : FlowEntry
  pub numbered : slice_get (all_flows d) i ≡ Some flow
  pub list : IsPlaceList d flow places
