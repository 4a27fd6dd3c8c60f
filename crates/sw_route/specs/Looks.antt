-- What the leading byte of a packet names at a routing switch (ECSS-E-ST-50-12C, network layer: packet addressing).
use Rattle.std.specs.Prelude.{◌≡◌, ℕ, ◌^◌, ◌<◌, ◌≤◌, Bool, false, true, ◌&&◌, nat_lt, nat_le, List, find, Option, Some, None, All, AllPairs, IsBitSet, slice_get, if◌then◌else◌}
use Rattle.sw_topo.specs.declared.place.PlaceEnd.{PlaceEnd}
use Rattle.sw_topo.specs.declared.place.PlaceEnd.TheVariants.{Switch}
use Rattle.sw_topo.specs.Wiring.{out_of}
use Rattle.sw_route.specs.declared.look.Look.{Look}
use Rattle.sw_route.specs.declared.look.Route.{Route}

-- A path address, 0 to 31, names the port of its number, and is deleted (path addressing, header deletion).
abbrev pub path_look : ℕ → Look
path_look byte = record { ports = 2 ^ byte; delete = true }

-- no port
abbrev pub no_look : Look
no_look = record { ports = 0; delete = false }

-- A byte below 32 is a path address. A byte 32 to 254 is a logical address, for which a switch has an answer of its own. 255 is
-- reserved: it names no port.
abbrev pub look_by : (ℕ → Look) → ℕ → Look
look_by logical byte = if nat_lt byte 32 then path_look byte else if nat_lt byte 255 then logical byte else no_look

-- an entry for the addresses from first to last
abbrev pub entry : ℕ → ℕ → ℕ → Bool → Route
entry first last ports delete = record { first = first; last = last; ports = ports; delete = delete }

-- the address is one of those that the entry is for
abbrev pub covers : ℕ → Route → Bool
covers byte r = nat_le r.first byte && nat_le byte r.last

-- The ports of the entry, several of them for group adaptive routing, and whether it deletes the address (regional addressing)
-- or keeps it. Where there is no entry, no port.
abbrev pub route_look : Option Route → Look
route_look None = no_look
route_look (Some r) = record { ports = r.ports; delete = r.delete }

-- what a byte names at a switch with these entries: a logical address that has no entry names no port
abbrev pub look_of : List Route → ℕ → Look
look_of routes byte = look_by (λ address. route_look (find (covers address) routes)) byte

-- channel d starts at switch s, at a port that the look names
pub record NamesOutput (ends : List PlaceEnd) (s : ℕ) (look : Look) (d : ℕ) : Type 0 where
  pub port : ℕ
  pub is_port : port < 32
  pub named : IsBitSet look.ports port
  pub linked : out_of ends s port ≡ Some d

-- each channel that a look names starts at the switch, at a port that the look names
abbrev pub OutputsStartAtTheSwitch : Type 0
OutputsStartAtTheSwitch = (ends : List PlaceEnd) (s : ℕ) (look : Look) (d : ℕ) → NamesOutput ends s look d → (port : ℕ) × IsBitSet look.ports port × (slice_get ends d ≡ Some (Switch s port))

-- an entry is for some of the logical addresses 32 to 254
pub record IsRoute (r : Route) : Type 0 where
  pub first : 32 ≤ r.first
  pub rising : r.first ≤ r.last
  pub last : r.last ≤ 254

-- the two are for an address in common
abbrev pub overlaps : Route → Route → Bool
overlaps r q = nat_le q.first r.last && nat_le r.first q.last

-- a routing table: each entry is for logical addresses, and no two for an address in common
pub record IsTable (routes : List Route) : Type 0 where
  pub valid : All IsRoute routes
  pub apart : AllPairs (λ r q. overlaps r q ≡ false) routes
