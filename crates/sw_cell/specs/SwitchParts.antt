-- The part of the machine's state that a switch has, and calls that make steps at a switch.
use Rattle.std.specs.Prelude.{None, Option, if◌then◌else◌, ◌==◌, Bool, IsBitSet, IsSome, List, Some, false, length, slice_get, true, unwrap_or, ℕ, ◌<◌, ◌↔◌, ◌≡◌}
use Rattle.sw_cell.specs.Parts.{IsBetweenPart}
use Rattle.sw_flow.specs.Places.{end_of, ends_of}
use Rattle.sw_machine.specs.Runs.{IsReached}
use Rattle.sw_machine.specs.State.{State}
use Rattle.sw_machine.specs.Steps.{IsPossible, Leads, Step}
use Rattle.sw_machine.specs.declared.input.InputState.{InputState}
use Rattle.sw_machine.specs.declared.input.InputState.TheVariants.{Held, Idle, Spilling}
use Rattle.sw_machine.specs.Model.{network_of}
use Rattle.sw_config.specs.Entries.{Declaration, look_at}
use Rattle.sw_config.specs.Valid.{IsValid}
use Rattle.sw_route.specs.declared.look.Look.{Look}
use Rattle.sw_switch.specs.Cell.{Cell, IsCell, credit_at, end_at, input_at}
use Rattle.sw_switch.specs.declared.input.Input.{Input as PortInput}
use Rattle.sw_switch.specs.declared.input.Input.TheVariants as ports
use Rattle.sw_topo.specs.Wiring.{out_of}
use Rattle.sw_topo.specs.declared.place.PlaceEnd.{PlaceEnd}
use Rattle.sw_topo.specs.declared.place.PlaceEnd.TheVariants.{Node, Switch}
use Rattle.sw_link.specs.Between.{Between}

-- an input that holds a port holds the channel that starts there
abbrev pub input_of : List PlaceEnd → ℕ → PortInput → InputState
input_of ends w ports.Idle = Idle
input_of ends w (ports.Held port) = Held (unwrap_or (out_of ends w port) 0)
input_of ends w ports.Spilling = Spilling

-- the port, if the place is one of switch w
abbrev pub port_at : ℕ → Option PlaceEnd → Option ℕ
port_at w None = None
port_at w (Some (Node n)) = None
port_at w (Some (Switch s port)) = if s == w then Some port else None

-- the port has what the state has of channel c, which ends there
pub record IsPortPart {R A : Type 0} (d : Declaration) (w : ℕ) (cell : Cell R A) (port c : ℕ) (s : State) : Type 0 where
  pub buffer : s.buffer c ≡ (end_at cell port).buffer
  pub outstanding : s.outstanding c ≡ (end_at cell port).outstanding
  pub input : s.input c ≡ input_of (ends_of d) w (input_at cell port)

-- the switch has what the state has of switch w
pub record IsSwitchPart {R A : Type 0} (d : Declaration) (w : ℕ) (cell : Cell R A) (s : State) : Type 0 where
  pub credit : (c port : ℕ) → slice_get (ends_of d) c ≡ Some (Switch w port) → s.credit c ≡ credit_at cell port
  pub ports : (c port : ℕ) → end_of d c ≡ Some (Switch w port) → IsPortPart d w cell port c s

-- switch w and what lies between the cells are those of a reached state
pub record IsSwitchState {R A : Type 0} (d : Declaration) (w : ℕ) (cell : Cell R A) (b : Between) (s : State) : Type 0 where
  pub reached : IsReached (network_of d) s
  pub part : IsSwitchPart d w cell s
  pub between : IsBetweenPart (network_of d) b s

-- the switch was made for switch w of a network; inputs with a link hold ports with a link, and no others do
pub record IsSwitchFor {R A : Type 0} (answer : R → ℕ → Look) (arbiter_ports : A → ℕ) (d : Declaration) (w : ℕ) (cell : Cell R A) : Type 0 where
  pub valid : IsValid d
  pub in_net : w < length d.switches
  pub sound : IsCell arbiter_ports cell
  pub linked : (port : ℕ) → IsBitSet cell.linked port ↔ IsSome (out_of (ends_of d) w port)
  pub routes : (byte : ℕ) → answer cell.routes byte ≡ look_at d.switches w byte
  pub capacity : (c port : ℕ) → end_of d c ≡ Some (Switch w port) → (end_at cell port).capacity ≡ (network_of d).capacity c
  pub held : (input port : ℕ) → input_at cell input ≡ ports.Held port → IsBitSet cell.linked input × IsSome (out_of (ends_of d) w port)

-- true: in each reached state whose parts these were the step is possible, and the new parts are those of the state that it leads to;
-- false: it is possible in none, and nothing changed
abbrev pub SwitchMakes : {R A : Type 0} → Declaration → ℕ → Cell R A → Between → Step → Bool → Cell R A → Between → Type 0
SwitchMakes d w cell b step true cell_after b_after = (s : State) → IsSwitchState d w cell b s → (t : State) × Leads (network_of d) s step t × IsSwitchState d w cell_after b_after t
SwitchMakes d w cell b step false cell_after b_after = ((s : State) → IsSwitchState d w cell b s → IsPossible (network_of d) s step → ⊥) × (cell_after ≡ cell) × (b_after ≡ b)

-- there is a reached state whose parts these are
abbrev pub HasSwitchState : {R A : Type 0} → Declaration → ℕ → Cell R A → Between → Type 0
HasSwitchState d w cell b = ∥ ((s : State) × IsSwitchState d w cell b s) ∥₁
