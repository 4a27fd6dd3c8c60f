-- The places of all flows.
use Rattle.std.specs.Prelude.{◌≡◌, ℕ, ◌+◌, List, [], ◌∷◌, ◌++◌, map, Option, slice_get}
use Rattle.std.specs.List.{AllZip}
use Rattle.sw_config.specs.Entries.{FlowEntry, Declaration, all_flows}
use Rattle.sw_flow.specs.declared.place.Place.{Place}
use Rattle.sw_flow.specs.Places.{IsPlaceList}

-- a flow, by its number too, and a place of it
pub record FlowPlace : Type 0 where
  pub number : ℕ
  pub flow : FlowEntry
  pub place : Place

-- the address byte that packets lead with there; none where all are deleted
abbrev pub leading_byte : FlowPlace → Option ℕ
leading_byte v = slice_get v.flow.address v.place.deleted

abbrev pub places_of_flow : ℕ → FlowEntry → List Place → List FlowPlace
places_of_flow number f places = map (λ p. record { number = number; flow = f; place = p }) places

-- the flows from that number on, each with its places
abbrev pub joined : ℕ → List FlowEntry → List (List Place) → List FlowPlace
joined number [] lists = []
joined number (f ∷ fs) [] = []
joined number (f ∷ fs) (places ∷ lists) = places_of_flow number f places ++ joined (number + 1) fs lists

-- the list has all places of these flows, and no others: flow by flow, each flow's in order
pub record AreFlowPlaces (d : Declaration) (flows : List FlowEntry) (all : List FlowPlace) : Type 0 where
  pub lists : List (List Place)
  pub each : AllZip (IsPlaceList d) flows lists
  pub listed : all ≡ joined 0 flows lists

-- the places of all flows of the network, reply flows too
abbrev pub AreAllPlaces : Declaration → List FlowPlace → Type 0
AreAllPlaces d all = AreFlowPlaces d (all_flows d) all
