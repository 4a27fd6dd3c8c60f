-- The ports that leading bytes name, by the channels on which packets bring them.
use Rattle.std.specs.Prelude.{◌≡◌, ℕ, ◌<◌, ◌≤◌, ◌⊎◌, ◌↔◌, nat_lt, List, length, slice_get, slice_index, Option, Some, None, Contains, IsBitSet, if◌then◌else◌}
use Rattle.sw_topo.specs.declared.place.PlaceEnd.{PlaceEnd}
use Rattle.sw_topo.specs.declared.place.PlaceEnd.TheVariants.{Node, Switch}
use Rattle.sw_config.specs.Entries.{FlowEntry, Declaration, all_flows}
use Rattle.sw_flow.specs.declared.place.Place.{Place}
use Rattle.sw_flow.specs.Faults.{IsWellRouted}
use Rattle.sw_flow.specs.Places.{ends_of, end_of, look_after, IsPlace}

-- Channel c ends at a switch, where packets of the flow arrive with k address bytes deleted and at least one left; the leading one
-- names port p (ECSS-E-ST-50-12C, network layer: packet addressing).
pub record NamesPort (d : Declaration) (f : FlowEntry) (c k p : ℕ) : Type 0 where
  pub switch : ℕ
  pub arrival : ℕ
  pub ends : end_of d c ≡ Some (Switch switch arrival)
  pub bytes_left : k < length f.address
  pub named : IsBitSet (look_after d f switch k).ports p

abbrev pub ports_at_switch : Declaration → FlowEntry → ℕ → ℕ → ℕ
ports_at_switch d f s k = if nat_lt k (length f.address) then (look_after d f s k).ports else 0

abbrev pub ports_at_end : Declaration → FlowEntry → ℕ → Option PlaceEnd → ℕ
ports_at_end d f k None = 0
ports_at_end d f k (Some (Node n)) = 0
ports_at_end d f k (Some (Switch s p)) = ports_at_switch d f s k

-- the set of these ports
unfoldable pub ports_named : Declaration → FlowEntry → ℕ → ℕ → ℕ
ports_named d f c k = ports_at_end d f k (end_of d c)

-- a packet of one of the flows with the numbers from low to below high, at a place on channel c, has a leading byte that names port p
pub record IsNamed (d : Declaration) (low high c p : ℕ) : Type 0 where
  pub number : ℕ
  pub flow : FlowEntry
  pub from : low ≤ number
  pub below : number < high
  pub numbered : slice_get (all_flows d) number ≡ Some flow
  pub deleted : ℕ
  pub place : IsPlace d flow c deleted
  pub named : NamesPort d flow c deleted p

-- a set of ports for each channel: port p is in that of channel c exactly where such a packet has such a byte
pub record AreNamed (d : Declaration) (low high : ℕ) (sets : List ℕ) : Type 0 where
  pub size : length sets ≡ length (ends_of d)
  pub ports : (c p : ℕ) → IsBitSet (slice_index sets c) p ↔ IsNamed d low high c p

-- at one of these places of the flow, on channel c, a leading byte names port p
pub record IsNamedAt (d : Declaration) (f : FlowEntry) (places : List Place) (c p : ℕ) : Type 0 where
  pub place : Place
  pub listed : Contains places place
  pub on : place.channel ≡ c
  pub named : NamesPort d f c place.deleted p

-- the ports that are named at these places of the flow are added to the sets of their channels
pub record AreAdded (d : Declaration) (f : FlowEntry) (places : List Place) (sets sets2 : List ℕ) : Type 0 where
  pub size : length sets2 ≡ length sets
  pub ports : (c p : ℕ) → IsBitSet (slice_index sets2 c) p ↔ (IsBitSet (slice_index sets c) p ⊎ IsNamedAt d f places c p)

-- the flows with the numbers from low to below high are well routed
abbrev pub AreRouted : Declaration → ℕ → ℕ → Type 0
AreRouted d low high = (i : ℕ) (f : FlowEntry) → low ≤ i → i < high → slice_get (all_flows d) i ≡ Some f → IsWellRouted d f
