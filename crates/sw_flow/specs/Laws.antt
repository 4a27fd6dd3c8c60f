-- Laws of places and of their faults.
use Rattle.std.specs.Prelude.{◌≡◌, ◌≢◌, ℕ, ◌-◌, ◌<◌, ◌≤◌, ◌⊎◌, ◌↔◌, Bool, IsTrue, List, length, Contains, Some, None}
use Rattle.sw_config.specs.PlaceEnd.{PlaceEnd}
use Rattle.sw_config.specs.PlaceEnd.TheVariants.{Node, Switch}
use Rattle.sw_config.specs.Wiring.{out}
use Rattle.sw_config.specs.Looks.{NamesOutput}
use Rattle.sw_config.specs.Entries.{FlowEntry, Declaration}
use Rattle.sw_flow.specs.declared.fault.RouteFault.TheVariants.{AddressEnds, NoRoute, WrongNode, WrongLeft}
use Rattle.sw_flow.specs.declared.place.Place.{Place}
use Rattle.sw_flow.specs.Places.{ends_of, end_of, look_after, Follows, IsPlace, IsPlaceList}
use Rattle.sw_flow.specs.Followers.{followers_of}
use Rattle.sw_flow.specs.Faults.{fault_of, first_fault_of, IsWellRouted}

-- a place is on one of the network's channels, and no more address bytes are deleted there than there are
abbrev pub PlacesAreIn : Type 0
PlacesAreIn = (d : Declaration) (f : FlowEntry) (c k : ℕ) → IsPlace d f c k → (c < length (ends_of d)) × (k ≤ length f.address)

-- what follows a place is a place
abbrev pub FollowersArePlaces : Type 0
FollowersArePlaces = (d : Declaration) (f : FlowEntry) (c k e m : ℕ) → IsPlace d f c k → Follows d f c k e m → IsPlace d f e m

-- the list of followers has the places that follow, and no others
abbrev pub FollowersAreListed : Type 0
FollowersAreListed = (d : Declaration) (f : FlowEntry) (c k : ℕ) (p : Place) → Contains (followers_of d f c k) p ↔ Follows d f c k p.channel p.deleted

-- every set, given by its test, that holds the flow's start and what follows its members holds all places of the flow
abbrev pub PlacesAreLeast : Type 0
PlacesAreLeast =
    (d : Declaration) (f : FlowEntry) (test : ℕ → ℕ → Bool)
    → ((c : ℕ) → out (ends_of d) f.from ≡ Some c → IsTrue (test c 0))
    → ((c k e m : ℕ) → IsTrue (test c k) → Follows d f c k e m → IsTrue (test e m))
    → (c k : ℕ) → IsPlace d f c k → IsTrue (test c k)

-- Each fault in words: at a switch with no address byte left; at a switch where the leading byte names no channel; at a node other
-- than the flow's end; at the flow's end with another count of address bytes than is to be left.
pub record FaultsAre (d : Declaration) (f : FlowEntry) (c k : ℕ) : Type 0 where
  pub address_ends : fault_of d f c k ≡ Some AddressEnds ↔ ((s p : ℕ) × (end_of d c ≡ Some (Switch s p)) × (length f.address ≤ k))
  pub no_route : fault_of d f c k ≡ Some NoRoute ↔ ((s p : ℕ) × (end_of d c ≡ Some (Switch s p)) × (k < length f.address) × ((e : ℕ) → ¬ NamesOutput (ends_of d) s (look_after d f s k) e))
  pub wrong_node : fault_of d f c k ≡ Some WrongNode ↔ ((n : ℕ) × (end_of d c ≡ Some (Node n)) × (n ≢ f.to))
  pub wrong_left : fault_of d f c k ≡ Some WrongLeft ↔ ((end_of d c ≡ Some (Node f.to)) × (length f.address - k ≢ f.left))

abbrev pub FaultsInWords : Type 0
FaultsInWords = (d : Declaration) (f : FlowEntry) (c k : ℕ) → FaultsAre d f c k

-- from a place without a fault some place follows, or it is at the flow's end with as many address bytes as are to be left
abbrev pub FaultlessGoOn : Type 0
FaultlessGoOn =
    (d : Declaration) (f : FlowEntry) (c k : ℕ) (o : PlaceEnd) → end_of d c ≡ Some o → fault_of d f c k ≡ None
    → ((e m : ℕ) × Follows d f c k e m) ⊎ ((o ≡ Node f.to) × (length f.address - k ≡ f.left))

-- a flow is well routed exactly where the list of its places has no faulty one
abbrev pub WellRoutedByList : Type 0
WellRoutedByList = (d : Declaration) (f : FlowEntry) (places : List Place) → IsPlaceList d f places → (first_fault_of d f places ≡ None ↔ IsWellRouted d f)
