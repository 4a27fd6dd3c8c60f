-- Whether steps are possible in the states that a network's cells are the parts of.
use Rattle.std.specs.Prelude.{Bool, List, None, Option, Some, false, true, ℕ}
use Rattle.sw_cell.specs.Makes.{IsDeclaredAt}
use Rattle.sw_cell.specs.declared.node.NodeStep.{NodeStep}
use Rattle.sw_cell.specs.declared.node.NodeStep.TheVariants as at_node
use Rattle.sw_cell.specs.declared.switch.PortStep.{PortStep}
use Rattle.sw_cell.specs.declared.switch.PortStep.TheVariants as at_port
use Rattle.sw_char.specs.declared.nchar.End.{End}
use Rattle.sw_machine.specs.State.{State}
use Rattle.sw_machine.specs.Steps.{Accept, Arrive, Begin, Drop, Emit, Fct, FctIn, Forward, Grant, IsPossible, Reply, Spill, Step}
use Rattle.sw_machine.specs.Model.{network_of}
use Rattle.sw_net.specs.Net.{IsNetState, NetView}
use Rattle.sw_topo.specs.Wiring.{partner}

-- true: in each such state the step is possible; false: it is in none
abbrev pub Tells : {R A : Type 0} → NetView R A → Step → Bool → Type 0
Tells v step true = (s : State) → IsNetState v s → IsPossible (network_of v.declared) s step
Tells v step false = (s : State) → IsNetState v s → IsPossible (network_of v.declared) s step → ⊥

-- the same of each packet that a flow declares which starts at node n
abbrev pub TellsBeginning : {R A : Type 0} → NetView R A → ℕ → Bool → Type 0
TellsBeginning v n told = (flow : ℕ) (cargo : List ℕ) (end : End) → IsDeclaredAt v.declared n flow cargo → Tells v (Begin flow cargo end) told

-- ---- a step by its kind

-- which step of a node it is, at whichever node; None: it begins a packet, or is never done at a node
abbrev pub kind_at_node : Step → Option NodeStep
kind_at_node (Fct c) = Some at_node.Fct
kind_at_node (FctIn c) = Some at_node.FctIn
kind_at_node (Arrive c) = Some at_node.Arrive
kind_at_node (Emit n) = Some at_node.Emit
kind_at_node (Accept n) = Some at_node.Accept
kind_at_node (Reply n) = Some at_node.Reply
kind_at_node step = None

-- which step of a port it is, and of which link end; None: it is a grant, or is never done at a switch
abbrev pub kind_at_port : Step → Option (ℕ × PortStep)
kind_at_port (Fct c) = Some (partner c, at_port.Fct)
kind_at_port (FctIn c) = Some (c, at_port.FctIn)
kind_at_port (Arrive c) = Some (partner c, at_port.Arrive)
kind_at_port (Drop c) = Some (partner c, at_port.DropFront)
kind_at_port (Forward c) = Some (partner c, at_port.Forward)
kind_at_port (Spill c) = Some (partner c, at_port.Spill)
kind_at_port step = None

-- the output that it grants, and the channel whose input gets it; None: it is no grant
abbrev pub granted_by : Step → Option (ℕ × ℕ)
granted_by (Grant output c) = Some (output, c)
granted_by step = None
