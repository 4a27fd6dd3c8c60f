-- What is told, in words of packets and of where they come.
use Rattle.std.specs.Prelude.{◌≡◌, ◌≢◌, ◌⊎◌, ◌↔◌, ℕ, ◌+◌, ◌*◌, ◌≤◌, false, List, Contains, IsSome, IsTrue, Some, slice_get}
use Rattle.sw_topo.specs.Laws.{StartsAt, EndsAt}
use Rattle.sw_topo.specs.Ports.{ports_of}
use Rattle.sw_topo.specs.declared.place.PlaceEnd.TheVariants.{Switch}
use Rattle.sw_route.specs.declared.look.Route.{Route}
use Rattle.sw_config.specs.Entries.{Declaration, all_flows, wiring_of}
use Rattle.sw_config.specs.Limits.{HasNoLimits, always_takes}
use Rattle.sw_config.specs.Valid.{IsValid}
use Rattle.sw_flow.specs.Places.{IsPlace}
use Rattle.sw_linter.specs.FlowPlaces.{FlowPlace, AreAllPlaces, leading_byte}
use Rattle.sw_linter.specs.Lints.{first_back, first_pair, is_used_entry, is_used_switch}

-- packets of the flow of that number come there
pub record ComeTo (d : Declaration) (v : FlowPlace) : Type 0 where
  pub numbered : slice_get (all_flows d) v.number ≡ Some v.flow
  pub place : IsPlace d v.flow v.place.channel v.place.deleted

-- the list has the places of all flows, and no others
abbrev pub AllPlacesAreListed : Type 0
AllPlacesAreListed = (d : Declaration) (all : List FlowPlace) (v : FlowPlace) → AreAllPlaces d all → Contains all v ↔ ComeTo d v

-- packets come over a channel that starts or ends at a port of the switch
pub record IsGoneOver (d : Declaration) (s : ℕ) : Type 0 where
  pub at : FlowPlace
  pub come : ComeTo d at
  pub port : ℕ
  pub there : StartsAt (wiring_of d) at.place.channel (Switch s port) ⊎ EndsAt (wiring_of d) at.place.channel (Switch s port)

-- packets come to the switch by that port, and lead with an address of the entry
pub record ComesFor (d : Declaration) (s port : ℕ) (r : Route) : Type 0 where
  pub at : FlowPlace
  pub come : ComeTo d at
  pub ends : EndsAt (wiring_of d) at.place.channel (Switch s port)
  pub byte : ℕ
  pub leads : leading_byte at ≡ Some byte
  pub first : r.first ≤ byte
  pub last : byte ≤ r.last

-- packets of a flow with a reply come over channel c
pub record Asks (d : Declaration) (c : ℕ) (at : FlowPlace) : Type 0 where
  pub come : ComeTo d at
  pub replied : IsSome at.flow.reply
  pub there : at.place.channel ≡ c

-- they go to two targets, of which one does not always take what comes
pub record AreOpposed (d : Declaration) (v w : FlowPlace) : Type 0 where
  pub apart : v.flow.to ≢ w.flow.to
  pub waits : (always_takes d v.flow.to ≡ false) ⊎ (always_takes d w.flow.to ≡ false)

-- Of a network whose flows have these places, in words.
pub record AreInWords (d : Declaration) (all : List FlowPlace) : Type 0 where
  -- a switch is used where packets come over one of its channels
  pub switches : (s : ℕ) → IsTrue (is_used_switch d all s) ↔ IsGoneOver d s
  -- an entry is used where packets come to the switch that lead with one of its addresses
  pub entries : (s : ℕ) (r : Route) → IsTrue (is_used_entry d all s r) ↔ ((port : ℕ) × ComesFor d s port r)
  -- an entry leads back where such packets come by one of its ports
  pub backs : (s e : ℕ) (r : Route) → IsSome (first_back d all s e r) ↔ ((port : ℕ) × Contains (ports_of r.ports) port × ComesFor d s port r)
  -- a link is told where two flows with replies go over its two channels, to two targets of which one does not always take what comes
  pub links : (link : ℕ) → IsSome (first_pair d all link) ↔ ((v w : FlowPlace) × Asks d (2 * link) v × Asks d (2 * link + 1) w × AreOpposed d v w)
  -- which is wherever they go to two targets, where no node and no flow has a limit
  pub unlimited : IsValid d → HasNoLimits d → (v w : FlowPlace) → v.flow.to ≢ w.flow.to → AreOpposed d v w

abbrev pub ToldInWords : Type 0
ToldInWords = (d : Declaration) (all : List FlowPlace) → AreAllPlaces d all → AreInWords d all
