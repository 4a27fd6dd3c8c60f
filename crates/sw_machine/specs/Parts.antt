-- The cells of a network: what of the state belongs to each, and which of them a step changes. Wires and FCTs under way lie between the cells.
use Rattle.std.specs.Prelude.{ℕ, ◌<◌, ◌≡◌, ◌≢◌}
use Rattle.sw_machine.specs.Network.{AtNode, AtSwitch, Cell, IsNetwork, Network, reverse_of}
use Rattle.sw_machine.specs.Runs.{IsReached}
use Rattle.sw_machine.specs.State.{State}
use Rattle.sw_machine.specs.Steps.{Accept, Arrive, Begin, Drop, Emit, Fct, FctIn, Forward, Grant, IsPossible, Leads, Reply, Spill, Step}
use Rattle.sw_machine.specs.declared.input.InputState.TheVariants.{Held}

-- the cell at which the step is done
abbrev pub cell_of : Network → Step → Cell
cell_of net (Fct c) = net.end_of c
cell_of net (FctIn c) = net.start_of c
cell_of net (Arrive c) = net.end_of c
cell_of net (Grant d c) = net.end_of c
cell_of net (Drop c) = net.end_of c
cell_of net (Forward c) = net.end_of c
cell_of net (Spill c) = net.end_of c
cell_of net (Begin f cargo end) = AtNode (net.flow f).from
cell_of net (Emit n) = AtNode n
cell_of net (Accept n) = AtNode n
cell_of net (Reply n) = AtNode n

-- the link end to which the step belongs, named by the channel that starts there
abbrev pub link_end_of : Network → Step → ℕ
link_end_of net (Fct c) = reverse_of c
link_end_of net (FctIn c) = c
link_end_of net (Arrive c) = reverse_of c
link_end_of net (Grant d c) = d
link_end_of net (Drop c) = reverse_of c
link_end_of net (Forward c) = reverse_of c
link_end_of net (Spill c) = reverse_of c
link_end_of net (Begin f cargo end) = net.out (net.flow f).from
link_end_of net (Emit n) = net.out n
link_end_of net (Accept n) = net.out n
link_end_of net (Reply n) = net.out n

-- each possible step belongs to a link end at its cell
abbrev pub LinkEndsAreAtCells : Type 0
LinkEndsAreAtCells = (net : Network) → IsNetwork net → (s : State) (step : Step) → IsPossible net s step → (link_end_of net step < net.channels) × (net.start_of (link_end_of net step) ≡ cell_of net step)

-- a node's own part is the same
pub record SameNode (n : ℕ) (s t : State) : Type 0 where
  pub to_send : t.to_send n ≡ s.to_send n
  pub pending : t.pending n ≡ s.pending n
  pub owed : t.owed n ≡ s.owed n
  pub taken : t.taken n ≡ s.taken n
  pub memory : t.memory n ≡ s.memory n

-- what comes in on channel c is the same where it ends
pub record SameEnd (c : ℕ) (s t : State) : Type 0 where
  pub buffer : t.buffer c ≡ s.buffer c
  pub outstanding : t.outstanding c ≡ s.outstanding c
  pub input : t.input c ≡ s.input c

-- the cell's part of the state is the same: the credit of each channel that starts there, what comes in on each that ends there, and a node's own
pub record SamePart (net : Network) (cell : Cell) (s t : State) : Type 0 where
  pub starts : (c : ℕ) → c < net.channels → net.start_of c ≡ cell → t.credit c ≡ s.credit c
  pub ends : (c : ℕ) → c < net.channels → net.end_of c ≡ cell → SameEnd c s t
  pub node : (n : ℕ) → AtNode n ≡ cell → SameNode n s t

-- what lies between the cells is the same
pub record SameBetween (net : Network) (s t : State) : Type 0 where
  pub wire : (c : ℕ) → c < net.channels → t.wire c ≡ s.wire c
  pub fcts : (c : ℕ) → c < net.channels → t.fcts c ≡ s.fcts c

-- an input holds an output of its own switch
pub record HoldsItsOwn (net : Network) (c d : ℕ) : Type 0 where
  pub in_net : d < net.channels
  pub switch : ℕ
  pub ends : net.end_of c ≡ AtSwitch switch
  pub starts : net.start_of d ≡ AtSwitch switch

-- wormhole routing (ECSS-E-ST-50-12C, network layer): an output is held by one input at most, of its own switch
pub record IsWormhole (net : Network) (s : State) : Type 0 where
  pub own : (c d : ℕ) → c < net.channels → s.input c ≡ Held d → HoldsItsOwn net c d
  pub one : (b c d : ℕ) → b < net.channels → c < net.channels → s.input b ≡ Held d → s.input c ≡ Held d → b ≡ c

-- in each reached state, with no certificate
abbrev pub OutputsAreHeldOnce : Type 0
OutputsAreHeldOnce = (net : Network) → IsNetwork net → (s : State) → IsReached net s → IsWormhole net s

-- a step changes the part of its own cell, and of no other
abbrev pub StepsChangeOneCell : Type 0
StepsChangeOneCell = (net : Network) → IsNetwork net → (s : State) → IsReached net s → (step : Step) (t : State) → Leads net s step t → (cell : Cell) → cell ≢ cell_of net step → SamePart net cell s t

-- whether a step is possible hangs on its cell's part, and on what lies between, alone
abbrev pub StepsAreLocal : Type 0
StepsAreLocal = (net : Network) → IsNetwork net → (s u : State) → IsReached net s → IsReached net u → (step : Step) → SamePart net (cell_of net step) s u → SameBetween net s u → IsPossible net s step → IsPossible net u step
