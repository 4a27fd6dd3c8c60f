-- What a cell has of the machine's state.
use Rattle.std.specs.List.{range_with_len}
use Rattle.std.specs.Prelude.{All, List, Some, filter, is_some, map, ℕ, ◌≡◌}
use Rattle.sw_cell.specs.declared.cell.CellId.{CellId}
use Rattle.sw_cell.specs.declared.cell.CellId.TheVariants as place
use Rattle.sw_flow.specs.Places.{ends_of}
use Rattle.sw_machine.specs.Network.{Network, reverse_of}
use Rattle.sw_machine.specs.State.{State}
use Rattle.sw_machine.specs.declared.input.InputState.{InputState}
use Rattle.sw_machine.specs.declared.input.InputState.TheVariants.{Held, Idle, Spilling}
use Rattle.sw_machine.specs.Model.{network_of}
use Rattle.sw_net.specs.Kept.{NodeView, PortView}
use Rattle.sw_net.specs.declared.part.Part.{Part}
use Rattle.sw_net.specs.declared.part.Part.TheVariants.{Node, Switch}
use Rattle.sw_config.specs.Entries.{Declaration}
use Rattle.sw_switch.specs.declared.input.Input.{Input as PortInput}
use Rattle.sw_switch.specs.declared.input.Input.TheVariants as ports
use Rattle.sw_topo.specs.Wiring.{out_of}
use Rattle.sw_topo.specs.declared.place.PlaceEnd.{PlaceEnd}

-- it tells what the state has of node n
pub record IsNodeOf (net : Network) (s : State) (n : ℕ) (part : NodeView) : Type 0 where
  pub to_send : part.to_send ≡ s.to_send n
  pub pending : part.pending ≡ s.pending n
  pub owed : part.owed ≡ s.owed n
  pub taken : part.taken ≡ s.taken n
  pub memory : part.memory ≡ s.memory n
  pub credit : part.credit ≡ s.credit (net.out n)
  pub buffer : part.buffer ≡ s.buffer (net.into n)
  pub outstanding : part.outstanding ≡ s.outstanding (net.into n)

-- an input of switch w does what the state says: it holds a port where that holds the channel that starts there (ECSS-E-ST-50-12C,
-- network layer: wormhole routing)
abbrev pub IsSameInput : List PlaceEnd → ℕ → PortInput → InputState → Type 0
IsSameInput ends w ports.Idle Idle = Unit {0}
IsSameInput ends w (ports.Held port) (Held channel) = out_of ends w port ≡ Some channel
IsSameInput ends w ports.Spilling Spilling = Unit {0}
IsSameInput ends w input other = ⊥

-- it tells what the state has of a port of switch w: of the channel that starts there the credit, and of the other channel of that link,
-- which ends there, the rest
pub record IsPortOf (d : Declaration) (s : State) (w : ℕ) (part : PortView) : Type 0 where
  pub channel : ℕ
  pub starts : out_of (ends_of d) w part.port ≡ Some channel
  pub input : IsSameInput (ends_of d) w part.input (s.input (reverse_of channel))
  pub credit : part.credit ≡ s.credit channel
  pub buffer : part.buffer ≡ s.buffer (reverse_of channel)
  pub outstanding : part.outstanding ≡ s.outstanding (reverse_of channel)

-- the ports of switch w that have a link, in rising order
abbrev pub linked_ports : List PlaceEnd → ℕ → List ℕ
linked_ports ends w = filter (λ port. is_some (out_of ends w port)) (range_with_len 0 32)

-- they tell what the state has of switch w: of each port with a link, in rising order
pub record ArePortsOf (d : Declaration) (s : State) (w : ℕ) (parts : List PortView) : Type 0 where
  pub ports : map (λ (part : PortView). part.port) parts ≡ linked_ports (ends_of d) w
  pub each : All (IsPortOf d s w) parts

-- it tells what the state has of the cell
abbrev pub IsPartOf : Declaration → State → CellId → Part → Type 0
IsPartOf d s (place.Node n) (Node part) = IsNodeOf (network_of d) s n part
IsPartOf d s (place.Node n) (Switch parts) = ⊥
IsPartOf d s (place.Switch w) (Node part) = ⊥
IsPartOf d s (place.Switch w) (Switch parts) = ArePortsOf d s w parts.items
