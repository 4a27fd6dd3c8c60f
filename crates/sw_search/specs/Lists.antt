-- The lists of places and the rows of dependencies that a search goes by.
use Rattle.std.specs.Prelude.{◌≡◌, ◌≢◌, ◌↔◌, ℕ, All, AllPairs, List, length, slice_get, Option, Some, None, Vec}
use Rattle.std.specs.List.{AllZip, range_with_len}
use Rattle.std.specs.declared.alloc.Global.{Global}
use Rattle.sw_config.specs.Entries.{FlowEntry, Declaration, all_flows}
use Rattle.sw_flow.specs.declared.fault.RouteFault.{RouteFault}
use Rattle.sw_flow.specs.declared.place.Place.{Place}
use Rattle.sw_flow.specs.Places.{ends_of, IsPlaceList}
use Rattle.sw_flow.specs.Faults.{first_fault_of, IsWellRouted}
use Rattle.sw_machine.specs.Places.{IsDependency}
use Rattle.sw_cycle.specs.Model.{network_of}
use Rattle.sw_graph.specs.Rows.{IsGraph, Leads}

-- the places of each flow, reply flows too
abbrev pub AreListed : Declaration → List (Vec Place Global) → Type 0
AreListed d lists = AllZip (λ f places. IsPlaceList d f places.items) (all_flows d) lists

-- place and fault are the first of flow i
pub record IsFaulty (d : Declaration) (i : ℕ) (place : Place) (fault : RouteFault) : Type 0 where
  pub flow : FlowEntry
  pub numbered : slice_get (all_flows d) i ≡ Some flow
  pub places : List Place
  pub listed : IsPlaceList d flow places
  pub first : first_fault_of d flow places ≡ Some (place, fault)

-- flow i is well routed
abbrev pub IsRouted : Declaration → ℕ → Type 0
IsRouted d i = (f : FlowEntry) → slice_get (all_flows d) i ≡ Some f → IsWellRouted d f

-- flow i is well routed where nothing is found, and else this is its first place with a fault
abbrev pub IsFirstFault : Declaration → ℕ → Option (Place × RouteFault) → Type 0
IsFirstFault d i None = IsRouted d i
IsFirstFault d i (Some found) = IsFaulty d i found.0 found.1

-- the first fault of each flow, where it has one
abbrev pub AreFirstFaults : Declaration → List (Option (Place × RouteFault)) → Type 0
AreFirstFaults d faults = AllZip (IsFirstFault d) (range_with_len 0 (length (all_flows d))) faults

-- a row for each channel, with the channels that depend on it, each once
pub record AreRows (d : Declaration) (rows : List (Vec ℕ Global)) : Type 0 where
  pub size : length rows ≡ length (ends_of d)
  pub exact : (c e : ℕ) → Leads rows c e ↔ IsDependency (network_of d) c e
  pub graph : IsGraph rows
  pub once : All (λ v. AllPairs (λ x y. x ≢ y) v.items) rows
