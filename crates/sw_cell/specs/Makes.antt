-- A call that makes one of the machine's steps.
use Rattle.std.specs.Prelude.{Bool, List, false, true, ℕ, ◌≡◌}
use Rattle.sw_cell.specs.Parts.{IsNodeFor, IsNodeState}
use Rattle.sw_machine.specs.DeclaredPackets.{IsDeclaredPacket}
use Rattle.sw_machine.specs.Network.{Network}
use Rattle.sw_machine.specs.State.{State}
use Rattle.sw_machine.specs.Steps.{IsPossible, Leads, Step}
use Rattle.sw_machine.specs.Model.{network_of}
use Rattle.sw_config.specs.Entries.{Declaration}
use Rattle.sw_node.specs.Node.{Node}
use Rattle.sw_link.specs.Between.{Between}

-- true: in each reached state whose parts these were the step is possible, and the new parts are those of the state that it leads to;
-- false: it is possible in none, and nothing changed
abbrev pub NodeMakes : Network → ℕ → Node → Between → Step → Bool → Node → Between → Type 0
NodeMakes net n node b step true node_after b_after = (s : State) → IsNodeState net n node b s → (t : State) × Leads net s step t × IsNodeState net n node_after b_after t
NodeMakes net n node b step false node_after b_after = ((s : State) → IsNodeState net n node b s → IsPossible net s step → ⊥) × (node_after ≡ node) × (b_after ≡ b)

-- the same of a call that leaves alone what lies between the cells, and keeps the node as it was made
pub record NodeDoes (d : Declaration) (n : ℕ) (node : Node) (step : Step) (done : Bool) (node_after : Node) : Type 0 where
  pub kept : IsNodeFor d n node_after
  pub makes : (b : Between) → NodeMakes (network_of d) n node b step done node_after b

-- there is a reached state whose parts these are
abbrev pub HasNodeState : Network → ℕ → Node → Between → Type 0
HasNodeState net n node b = ∥ ((s : State) × IsNodeState net n node b s) ∥₁

-- a flow that starts at node n declares the packet with this cargo
pub record IsDeclaredAt (d : Declaration) (n flow : ℕ) (cargo : List ℕ) : Type 0 where
  pub packet : IsDeclaredPacket d flow cargo
  pub from : ((network_of d).flow flow).from ≡ n
