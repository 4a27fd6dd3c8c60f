-- What a network keeps while it is being put together, and what is kept beside it for look-ups.
use Rattle.std.specs.Prelude.{◌≡◌, ℕ, ◌≤◌, List, length, All, AllPairs, ◌≢◌, Result, Ok, Err, Some, None}
use Rattle.sw_route.specs.TopoError.{TopoError}
use Rattle.sw_route.specs.TopoError.TheVariants as errors
use Rattle.sw_route.specs.LimitConstants.{MAX_NODES, MAX_SWITCHES}
use Rattle.sw_route.specs.Wiring.{Wiring}
use Rattle.sw_route.specs.Checked.{IsIn, fault_of}
use Rattle.sw_config.specs.Entries.{FlowEntry, Declaration, part_names, link_ends, wiring_of, reply_flows}
use Rattle.sw_config.specs.LimitRows.{LimitRows, AreLimits}
use Rattle.sw_config.specs.Valid.{IsNode, IsSwitch, IsLink, IsValid}

-- nodes, switches and links in their ranges, each link between two of the parts, and no name given twice
pub record IsDraft (d : Declaration) : Type 0 where
  pub few_nodes : length d.nodes ≤ MAX_NODES
  pub few_switches : length d.switches ≤ MAX_SWITCHES
  pub inside : All (IsIn (length d.nodes) (length d.switches)) (link_ends d.links)
  pub nodes : All IsNode d.nodes
  pub switches : All IsSwitch d.switches
  pub links : All IsLink d.links
  pub parts_named : AllPairs (λ x y. x ≢ y) (part_names d)

-- the wiring and the names are those of the declaration
pub record IsBuilder (wiring : Wiring) (names : List (List ℕ)) (d : Declaration) : Type 0 where
  pub wired : wiring ≡ wiring_of d
  pub named : names ≡ part_names d
  pub draft : IsDraft d

-- the wiring, the names, the reply flows and the limits are those of a valid declaration
pub record IsNetwork (wiring : Wiring) (names : List (List ℕ)) (reply_list : List FlowEntry) (limits : LimitRows) (d : Declaration) : Type 0 where
  pub wired : wiring ≡ wiring_of d
  pub named : names ≡ part_names d
  pub replied : reply_list ≡ reply_flows d.flows
  pub limited : AreLimits d limits
  pub valid : IsValid d

-- What wiring gave: the declaration as it was where its wiring has no fault, and else the first fault, unless memory ran out.
abbrev pub Wires : Result Declaration TopoError → Declaration → Type 0
Wires (Ok network) d = (fault_of (wiring_of d) ≡ None) × (network ≡ d)
Wires (Err (errors.Fault fault)) d = fault_of (wiring_of d) ≡ Some fault
Wires (Err errors.Memory) d = Unit {0}
