-- Calls that tell whether a step is possible, and change nothing.
use Rattle.std.specs.Prelude.{Bool, List, None, Option, Some, false, true, ℕ, ◌≡◌}
use Rattle.sw_cell.specs.Makes.{IsDeclaredAt}
use Rattle.sw_cell.specs.Parts.{IsNodeState}
use Rattle.sw_cell.specs.SwitchParts.{IsSwitchState}
use Rattle.sw_cell.specs.declared.node.NodeStep.{NodeStep}
use Rattle.sw_cell.specs.declared.node.NodeStep.TheVariants as at_node
use Rattle.sw_cell.specs.declared.switch.PortStep.{PortStep}
use Rattle.sw_cell.specs.declared.switch.PortStep.TheVariants as at_port
use Rattle.sw_char.specs.declared.nchar.End.{End}
use Rattle.sw_machine.specs.Network.{Network}
use Rattle.sw_machine.specs.Parts.{link_end_of}
use Rattle.sw_machine.specs.State.{State}
use Rattle.sw_machine.specs.Steps.{Accept, Arrive, Begin, Drop, Emit, Fct, FctIn, Forward, IsPossible, Reply, Spill, Step, is_begin}
use Rattle.sw_machine.specs.Model.{network_of}
use Rattle.sw_config.specs.Entries.{Declaration}
use Rattle.sw_node.specs.Node.{Node}
use Rattle.sw_switch.specs.Cell.{Cell}
use Rattle.sw_topo.specs.Wiring.{partner}
use Rattle.sw_link.specs.Between.{Between}

-- the machine's step at node n
abbrev pub step_at_node : Network → ℕ → NodeStep → Step
step_at_node net n at_node.Fct = Fct (net.into n)
step_at_node net n at_node.FctIn = FctIn (net.out n)
step_at_node net n at_node.Arrive = Arrive (net.into n)
step_at_node net n at_node.Emit = Emit n
step_at_node net n at_node.Accept = Accept n
step_at_node net n at_node.Reply = Reply n

-- the machine's step at the link end of a port, where channel c starts and its partner ends
abbrev pub step_at_port : ℕ → PortStep → Step
step_at_port c at_port.Fct = Fct (partner c)
step_at_port c at_port.FctIn = FctIn c
step_at_port c at_port.Arrive = Arrive (partner c)
step_at_port c at_port.DropFront = Drop (partner c)
step_at_port c at_port.Forward = Forward (partner c)
step_at_port c at_port.Spill = Spill (partner c)

-- true: in each reached state whose parts these are the step is possible; false: in none
abbrev pub NodeTells : Network → ℕ → Node → Between → Step → Bool → Type 0
NodeTells net n node b step true = (s : State) → IsNodeState net n node b s → IsPossible net s step
NodeTells net n node b step false = (s : State) → IsNodeState net n node b s → IsPossible net s step → ⊥

-- the same of each packet that a flow declares which starts at node n
abbrev pub BeginTells : Declaration → ℕ → Node → Bool → Type 0
BeginTells d n node told = (flow : ℕ) (cargo : List ℕ) (end : End) (b : Between) → IsDeclaredAt d n flow cargo → NodeTells (network_of d) n node b (Begin flow cargo end) told

-- the same of a switch
abbrev pub SwitchTells : {R A : Type 0} → Declaration → ℕ → Cell R A → Between → Step → Bool → Type 0
SwitchTells d w cell b step true = (s : State) → IsSwitchState d w cell b s → IsPossible (network_of d) s step
SwitchTells d w cell b step false = (s : State) → IsSwitchState d w cell b s → IsPossible (network_of d) s step → ⊥

-- some step that belongs to the link end where channel e starts is possible, other than a beginning
pub record CanStepAt (net : Network) (s : State) (e : ℕ) : Type 0 where
  pub step : Step
  pub belongs : link_end_of net step ≡ e
  pub no_begin : is_begin step ≡ false
  pub possible : IsPossible net s step

-- true: in each reached state whose parts these are the node's link end can step; false: in none
abbrev pub NodeEnabled : Network → ℕ → Node → Between → Bool → Type 0
NodeEnabled net n node b true = (s : State) → IsNodeState net n node b s → CanStepAt net s (net.out n)
NodeEnabled net n node b false = (s : State) → IsNodeState net n node b s → CanStepAt net s (net.out n) → ⊥

-- the same of the link end where channel e starts at a switch
abbrev pub PortEnabled : {R A : Type 0} → Declaration → ℕ → Cell R A → Between → ℕ → Bool → Type 0
PortEnabled d w cell b e true = (s : State) → IsSwitchState d w cell b s → CanStepAt (network_of d) s e
PortEnabled d w cell b e false = (s : State) → IsSwitchState d w cell b s → CanStepAt (network_of d) s e → ⊥

-- Some: in each reached state whose parts these are that step at node n is possible; None: in none can the node's link end step
abbrev pub NodeHas : Network → ℕ → Node → Between → Option NodeStep → Type 0
NodeHas net n node b None = NodeEnabled net n node b false
NodeHas net n node b (Some step) = NodeTells net n node b (step_at_node net n step) true

-- Some: in each reached state whose parts these are that step of the link end is possible; None: in none is any, apart from grants of its output
abbrev pub PortHas : {R A : Type 0} → Declaration → ℕ → Cell R A → Between → ℕ → Option PortStep → Type 0
PortHas d w cell b e None = (step : PortStep) → SwitchTells d w cell b (step_at_port e step) false
PortHas d w cell b e (Some step) = SwitchTells d w cell b (step_at_port e step) true
