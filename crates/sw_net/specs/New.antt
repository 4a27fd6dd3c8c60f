-- What a new network is made of, and its cells at first.
use Rattle.std.specs.Global.{Vec}
use Rattle.std.specs.Option.{option_map_or}
use Rattle.std.specs.Prelude.{IsBitSet, IsSome, List, None, Ok, Option, Result, Some, [], length, map, slice_get, slice_index, take, ℕ, ◌+◌, ◌++◌, ◌<◌, ◌^◌, ◌∷◌, ◌↔◌, ◌≡◌}
use Rattle.sw_cell.specs.Parts.{IsNodeFor, IsNodePart}
use Rattle.sw_cell.specs.SwitchParts.{IsSwitchFor, IsSwitchPart}
use Rattle.sw_flow.specs.Places.{ends_of}
use Rattle.sw_machine.specs.State.{empty}
use Rattle.sw_machine.specs.Model.{network_of}
use Rattle.sw_net.specs.Net.{IsNetState, NetView}
use Rattle.sw_net.specs.Outputs.{AreByOutput, StandsAt}
use Rattle.sw_config.specs.Entries.{Declaration, capacities, look_at}
use Rattle.sw_node.specs.Node.{Node}
use Rattle.sw_route.specs.declared.look.Look.{Look}
use Rattle.sw_switch.specs.Cell.{Cell}
use Rattle.sw_topo.specs.Wiring.{out_of, partner}
use Rattle.sw_topo.specs.declared.place.PlaceEnd.{PlaceEnd}
use Rattle.sw_topo.specs.declared.place.PlaceEnd.TheVariants as place

-- there is one for each switch, and each answers as the switch's routing table
pub record AreRoutes {R : Type 0} (answer : R → ℕ → Look) (d : Declaration) (routes : List R) : Type 0 where
  pub all : length routes ≡ length d.switches
  pub answers : (w : ℕ) (r : R) → slice_get routes w ≡ Some r → (byte : ℕ) → answer r byte ≡ look_at d.switches w byte

-- the set has the linked ports of switch w
pub record IsLinkedSet (d : Declaration) (w set : ℕ) : Type 0 where
  pub within : set < 2 ^ 32
  pub linked : (port : ℕ) → port < 32 → IsBitSet set port ↔ IsSome (out_of (ends_of d) w port)

-- there is one for each of these channels that starts at a switch, in their order, made with the linked ports of that switch
abbrev pub AreArbiters : {A : Type 0} → (A → ℕ) → Declaration → List PlaceEnd → List A → Type 0
AreArbiters ports d ends arbiters = AreByOutput (λ w port a. IsLinkedSet d w (ports a)) ends arbiters

-- the net is of this network, in the empty state
pub record IsNewNet {R A : Type 0} (d : Declaration) (v : NetView R A) : Type 0 where
  pub network : v.declared ≡ d
  pub empty : IsNetState v (empty (network_of d))

-- ---- on the way to it

-- what the channel that comes to the port can hold; 8, which is not used, where it has no link
abbrev pub port_capacity : Declaration → ℕ → ℕ → ℕ
port_capacity d w port = option_map_or (λ c. slice_index (capacities d.links) (partner c)) (out_of (ends_of d) w port) 8

pub record IsNewNode (d : Declaration) (n : ℕ) (node : Node) : Type 0 where
  pub for : IsNodeFor d n node
  pub part : IsNodePart (network_of d) n node (empty (network_of d))

pub record IsNewSwitch {R A : Type 0} (answer : R → ℕ → Look) (arbiter_ports : A → ℕ) (d : Declaration) (w : ℕ) (cell : Cell R A) : Type 0 where
  pub for : IsSwitchFor answer arbiter_ports d w cell
  pub part : IsSwitchPart d w cell (empty (network_of d))

-- an arbiter for switch w
abbrev pub IsPlaced : {A : Type 0} → (A → ℕ) → Declaration → ℕ → Option (Option A) → Type 0
IsPlaced ports d w None = ⊥
IsPlaced ports d w (Some None) = ⊥
IsPlaced ports d w (Some (Some a)) = IsLinkedSet d w (ports a)

-- each of the first channels that starts at switch w has an arbiter in its row, which has an entry for each port
pub record IsRow {A : Type 0} (ports : A → ℕ) (d : Declaration) (channels w : ℕ) (row : List (Option A)) : Type 0 where
  pub whole : length row ≡ 32
  pub placed : (c port : ℕ) → c < channels → slice_get (ends_of d) c ≡ Some (place.Switch w port) → IsPlaced ports d w (slice_get row port)

-- rows as lists
abbrev pub rows_of : {A : Type 0} → List (Vec (Option A)) → List (List (Option A))
rows_of {A} rows = map (λ (row : Vec (Option A)). row.items) rows

-- of all arbiters, those of the first channels stand in their rows, and the rest follow
pub record ArePlaced {A : Type 0} (d : Declaration) (channels : ℕ) (all rest : List A) (rows : List (List (Option A))) : Type 0 where
  pub placed : List A
  pub whole : all ≡ placed ++ rest
  pub stand : AreByOutput (StandsAt rows) (take channels (ends_of d)) placed

-- a value was made, and stands at the end
abbrev pub IsOneMore : {X E : Type 0} → List X → Result X E → List X → Type 0
IsOneMore {X} l made all = (x : X) × (made ≡ Ok x) × (all ≡ l ++ x ∷ [])

-- the first w switches are made, and these routings and rows are those of the others
pub record AreLeft {R A : Type 0} (answer : R → ℕ → Look) (arbiter_ports : A → ℕ) (d : Declaration) (w : ℕ) (tables : List R) (rows : List (Vec (Option A))) (made : List (Cell R A)) : Type 0 where
  pub all_tables : length tables + w ≡ length d.switches
  pub all_rows : length rows + w ≡ length d.switches
  pub all_made : length made ≡ w
  pub each_table : (k : ℕ) (r : R) → slice_get tables k ≡ Some r → (byte : ℕ) → answer r byte ≡ look_at d.switches (k + w) byte
  pub each_row : (k : ℕ) (row : Vec (Option A)) → slice_get rows k ≡ Some row → IsRow arbiter_ports d (length (ends_of d)) (k + w) row.items
  pub each_made : (k : ℕ) (cell : Cell R A) → slice_get made k ≡ Some cell → IsNewSwitch answer arbiter_ports d k cell
