-- A network's cells and what lies between them, as the parts of a state of its machine.
use Rattle.std.specs.Prelude.{List, Option, Result, Some, length, map, slice_get, ℕ, ◌≡◌}
use Rattle.sw_cell.specs.Answers.{Answers}
use Rattle.sw_cell.specs.declared.fault.NetFault.{NetFault}
use Rattle.sw_cell.specs.Parts.{IsBetweenPart, IsNodeFor, IsNodePart}
use Rattle.sw_cell.specs.SwitchParts.{IsSwitchFor, IsSwitchPart}
use Rattle.sw_machine.specs.Runs.{IsReached}
use Rattle.sw_machine.specs.State.{State}
use Rattle.sw_machine.specs.Steps.{Step}
use Rattle.sw_machine.specs.Model.{network_of}
use Rattle.sw_config.specs.Entries.{Declaration}
use Rattle.sw_config.specs.Valid.{IsValid}
use Rattle.sw_node.specs.Node.{Node}
use Rattle.sw_route.specs.declared.look.Look.{Look}
use Rattle.sw_switch.specs.Cell.{Cell}
use Rattle.sw_link.specs.Between.{Between}

-- what the network declares; the cells of its nodes and of its switches, in the order of their numbers; and what lies between them
pub record NetView (R A : Type 0) : Type 0 where
  pub declared : Declaration
  pub nodes : List Node
  pub switches : List (Cell R A)
  pub between : Between

abbrev pub net_of : {R A : Type 0} → Declaration → List Node → List (Cell R A) → Between → NetView R A
net_of declared nodes switches between = record { declared = declared; nodes = nodes; switches = switches; between = between }

-- all of these are the parts of one reached state
pub record IsNetState {R A : Type 0} (v : NetView R A) (s : State) : Type 0 where
  pub reached : IsReached (network_of v.declared) s
  pub nodes : (n : ℕ) (node : Node) → slice_get v.nodes n ≡ Some node → IsNodePart (network_of v.declared) n node s
  pub switches : (w : ℕ) (cell : Cell R A) → slice_get v.switches w ≡ Some cell → IsSwitchPart v.declared w cell s
  pub between : IsBetweenPart (network_of v.declared) v.between s

-- there is a cell for each node and each switch, made for it, and a reached state whose parts these are
pub record IsNet {R A : Type 0} (answer : R → ℕ → Look) (arbiter_ports : A → ℕ) (v : NetView R A) : Type 0 where
  pub valid : IsValid v.declared
  pub all_nodes : length v.nodes ≡ length v.declared.nodes
  pub all_switches : length v.switches ≡ length v.declared.switches
  pub nodes : (n : ℕ) (node : Node) → slice_get v.nodes n ≡ Some node → IsNodeFor v.declared n node
  pub switches : (w : ℕ) (cell : Cell R A) → slice_get v.switches w ≡ Some cell → IsSwitchFor answer arbiter_ports v.declared w cell
  pub reached : ∥ ((s : State) × IsNetState v s) ∥₁

-- what a call answers that is to make a step, where it found the first and left the second
abbrev pub NetAnswers : {R A : Type 0} → NetView R A → Step → Result Unit NetFault → NetView R A → Type 0
NetAnswers v step result w = Answers (network_of v.declared) (IsNetState v) step result (IsNetState w)

-- the arbiters of each switch
abbrev pub arbiters_of : {R A : Type 0} → List (Cell R A) → List (List (Option A))
arbiters_of {R} {A} switches = map (λ (c : Cell R A). c.arbiters) switches
