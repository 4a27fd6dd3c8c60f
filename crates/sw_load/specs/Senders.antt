-- What each node sends of a load, as places in its list.
use Rattle.std.specs.Prelude.{List, None, Option, Some, Vec, [], length, map, option_map, replicate, slice_get, ℕ, ◌++◌, ◌<◌, ◌≡◌}
use Rattle.std.specs.declared.alloc.Global.{Global}
use Rattle.sw_load.specs.History.{packet_of, packets_at, packets_of}
use Rattle.sw_load.specs.Load.{LoadEntry}
use Rattle.sw_machine.specs.Begun.{Begun}
use Rattle.sw_machine.specs.Model.{network_of}
use Rattle.sw_config.specs.Entries.{Declaration}

-- what the network declares, and the load
pub record SendersView : Type 0 where
  pub declared : Declaration
  pub load : List LoadEntry

abbrev pub items_of : Option (Vec ℕ Global) → List ℕ
items_of (Some v) = v.items
items_of None = []

-- the row of node n; empty where there is no such node
abbrev pub places_at : List (Vec ℕ Global) → ℕ → List ℕ
places_at rows n = items_of (slice_get rows n)

-- a packet of the entry that stands at this place of the load
abbrev pub packet_in : List LoadEntry → ℕ → Option Begun
packet_in load place = option_map packet_of (slice_get load place)

-- the places in this row are those of these packets, one by one
abbrev pub ArePlaced : List LoadEntry → List ℕ → List Begun → Type 0
ArePlaced load places packets = map (packet_in load) places ≡ map (λ b. Some b) packets

-- each node's row has the places of its packets in the load
pub record IsFound (d : Declaration) (load : List LoadEntry) (rows : List (Vec ℕ Global)) : Type 0 where
  pub size : length rows ≡ length d.nodes
  pub each : (n : ℕ) → n < length d.nodes → ArePlaced load (places_at rows n) (packets_at (network_of d) n (packets_of load))

-- the row of node n has this place so many times more at its end, and the other rows are the same
pub record AreAdded (n place count : ℕ) (rows after : List (Vec ℕ Global)) : Type 0 where
  pub size : length after ≡ length rows
  pub here : places_at after n ≡ places_at rows n ++ replicate count place
  pub others : (m : ℕ) → (m ≡ n → ⊥) → places_at after m ≡ places_at rows m
