-- What is found of a network: a flow that is not well routed, else a cycle of dependencies, else a certificate that there is none.
use Rattle.std.specs.Prelude.{◌≡◌, ℕ, ◌<◌, All, Bool, true, false, List, length, slice_get, Some}
use Rattle.std.specs.List.{AllZip}
use Rattle.sw_config.specs.Entries.{FlowEntry, Declaration, all_flows}
use Rattle.sw_flow.specs.declared.fault.RouteFault.{RouteFault}
use Rattle.sw_flow.specs.declared.place.Place.{Place}
use Rattle.sw_flow.specs.Places.{ends_of, IsPlaceList}
use Rattle.sw_flow.specs.Faults.{first_fault_of, IsWellRouted}
use Rattle.sw_machine.specs.Places.{IsDependency}
use Rattle.sw_cycle.specs.Model.{network_of}
use Rattle.sw_graph.specs.Levels.{HasCycle, IsLevels}
use Rattle.sw_graph.specs.Cycles.{IsShownCycle}
use Rattle.sw_cycle.specs.Cycles.{CycleEntry}
use Rattle.sw_cert.specs.Text.{Contents}
use Rattle.sw_cycle.specs.Causes.{AreChosen}
use Rattle.sw_search.specs.declared.verdict.Verdict.{Verdict}
use Rattle.sw_search.specs.declared.verdict.Verdict.TheVariants.{Misrouted, Cyclic, Free}

-- a packet that is on channel c may wait for channel e
abbrev pub depends : Declaration → ℕ → ℕ → Type 0
depends d = IsDependency (network_of d)

-- each flow is well routed, reply flows too
abbrev pub AllWellRouted : Declaration → Type 0
AllWellRouted d = All (IsWellRouted d) (all_flows d)

-- flow i is the first that is not well routed, and this is the first of its places that has a fault
pub record IsMisrouted (d : Declaration) (i : ℕ) (place : Place) (fault : RouteFault) : Type 0 where
  pub flow : FlowEntry
  pub numbered : slice_get (all_flows d) i ≡ Some flow
  pub before : (j : ℕ) (f : FlowEntry) → j < i → slice_get (all_flows d) j ≡ Some f → IsWellRouted d f
  pub places : List Place
  pub listed : IsPlaceList d flow places
  pub first : first_fault_of d flow places ≡ Some (place, fault)

-- each flow is well routed, and this is the cycle of dependencies to show
pub record IsCyclic (d : Declaration) (cycle : CycleEntry) : Type 0 where
  pub routed : AllWellRouted d
  pub shown : IsShownCycle (depends d) cycle.channels
  pub caused : AreChosen d cycle.channels cycle.causes

-- each flow is well routed, the dependencies have no cycle, and the certificate has their levels and the places of each flow
pub record IsFree (d : Declaration) (contents : Contents) : Type 0 where
  pub routed : AllWellRouted d
  pub no_cycle : HasCycle (depends d) → ⊥
  pub levels : IsLevels (depends d) (length (ends_of d)) contents.numbers
  pub places : AllZip (IsPlaceList d) (all_flows d) contents.places

abbrev pub IsVerdict : Declaration → Verdict → Type 0
IsVerdict d (Misrouted i place fault) = IsMisrouted d i place fault
IsVerdict d (Cyclic cycle) = IsCyclic d cycle
IsVerdict d (Free contents) = IsFree d contents

-- the verdict is that the network is free
abbrev pub says_free : Verdict → Bool
says_free (Free contents) = true
says_free verdict = false
