-- Cycles of dependencies that stay in a network when it is changed.
use Rattle.std.specs.Prelude.{◌≡◌, ◌<◌, ◌++◌, ℕ, All, Contains, List, Some, length, slice_get, true}
use Rattle.sw_topo.specs.declared.place.PlaceEnd.{PlaceEnd}
use Rattle.sw_topo.specs.declared.place.PlaceEnd.TheVariants.{Switch}
use Rattle.sw_config.specs.Entries.{Declaration, FlowEntry, all_flows}
use Rattle.sw_config.specs.Limits.{may_make_wait}
use Rattle.sw_config.specs.Valid.{IsValid}
use Rattle.sw_flow.specs.declared.place.Place.{Place}
use Rattle.sw_flow.specs.Places.{end_of, ends_of, look_after}
use Rattle.sw_search.specs.Cycles.{ByFlow, ByTarget, CauseEntry, CycleEntry, IsShown}
use Rattle.sw_search.specs.Laws.{RoutedAndFree}
use Rattle.sw_mend.specs.Mends.{Frees, left_by}
use Rattle.sw_mend.specs.declared.change.Trial.{Trial}

-- the network that is left has all channels of the other, with the same numbers, and perhaps more behind them
abbrev pub HasChannels : Declaration → Declaration → Type 0
HasChannels d left = (more : List PlaceEnd) × (ends_of left ≡ ends_of d ++ more)

-- Some flow of the network that is left starts where flow i of the other does, with the same address bytes. And at each switch to which it comes by
-- one of these places, its leading byte there names what it named before.
pub record IsWayKept (d left : Declaration) (i : ℕ) (places : List Place) : Type 0 where
  pub flow : FlowEntry
  pub numbered : slice_get (all_flows d) i ≡ Some flow
  pub other : FlowEntry
  pub there : Contains (all_flows left) other
  pub from : other.from ≡ flow.from
  pub address : other.address ≡ flow.address
  pub looks : (place : Place) (s p : ℕ) → Contains places place → end_of d place.channel ≡ Some (Switch s p) → place.deleted < length flow.address
      → look_after left flow s place.deleted ≡ look_after d flow s place.deleted

-- the cause is left: the target may make others wait still, or the flow goes over these places still
abbrev pub IsCauseKept : Declaration → Declaration → CauseEntry → Type 0
IsCauseKept d left (ByTarget t) = may_make_wait left t ≡ true
IsCauseKept d left (ByFlow i places) = IsWayKept d left i places

-- a shown cycle each of whose causes is left is a cycle of the network that is left: its channels are, with causes there
abbrev pub KeptCyclesAreShown : Type 0
KeptCyclesAreShown =
    (d left : Declaration) (cycle : CycleEntry) → HasChannels d left → IsShown d cycle → All (IsCauseKept d left) cycle.causes
    → (causes : List CauseEntry) × IsShown left (record { channels = cycle.channels; causes = causes })

-- so that network is not free
abbrev pub KeptCyclesRuleOutFree : Type 0
KeptCyclesRuleOutFree =
    (d left : Declaration) (cycle : CycleEntry) → IsValid left → HasChannels d left → IsShown d cycle → All (IsCauseKept d left) cycle.causes
    → RoutedAndFree left → ⊥

-- and a change that leaves each cause of a shown cycle does not free the network
abbrev pub SparedCyclesRuleOutFrees : Type 0
SparedCyclesRuleOutFrees =
    (d : Declaration) (change : Trial) (cycle : CycleEntry) → IsValid d → IsShown d cycle → All (IsCauseKept d (left_by d change)) cycle.causes
    → Frees d change → ⊥
