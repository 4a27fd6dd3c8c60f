-- The parts of the machine's state: what a cell has of it, and what lies between the cells.
use Rattle.std.specs.Prelude.{length, ℕ, ◌<◌, ◌≡◌}
use Rattle.sw_machine.specs.Network.{Network}
use Rattle.sw_machine.specs.Runs.{IsReached}
use Rattle.sw_machine.specs.State.{State}
use Rattle.sw_machine.specs.Model.{network_of}
use Rattle.sw_config.specs.Entries.{Declaration, target_of}
use Rattle.sw_config.specs.Valid.{IsValid}
use Rattle.sw_node.specs.Node.{Node, config_of, memory_of, taken}
use Rattle.sw_link.specs.Between.{Between, fcts_at, wire_at}

-- the node has what the state has of node n
pub record IsNodePart (net : Network) (n : ℕ) (node : Node) (s : State) : Type 0 where
  pub credit : s.credit (net.out n) ≡ node.credit
  pub buffer : s.buffer (net.into n) ≡ node.received.buffer
  pub outstanding : s.outstanding (net.into n) ≡ node.received.outstanding
  pub to_send : s.to_send n ≡ node.to_send
  pub pending : s.pending n ≡ node.pending
  pub owed : s.owed n ≡ node.owed
  pub taken : s.taken n ≡ taken node
  pub memory : s.memory n ≡ memory_of node.target

-- the wires and the FCTs under way are those of the state
pub record IsBetweenPart (net : Network) (b : Between) (s : State) : Type 0 where
  pub all_wires : length b.wires ≡ net.channels
  pub all_fcts : length b.fcts ≡ net.channels
  pub wire : (c : ℕ) → c < net.channels → s.wire c ≡ wire_at b c
  pub fcts : (c : ℕ) → c < net.channels → s.fcts c ≡ fcts_at b c

-- node n and what lies between the cells are those of a reached state
pub record IsNodeState (net : Network) (n : ℕ) (node : Node) (b : Between) (s : State) : Type 0 where
  pub reached : IsReached net s
  pub part : IsNodePart net n node s
  pub between : IsBetweenPart net b s

-- the node was made for node n of a network
pub record IsNodeFor (d : Declaration) (n : ℕ) (node : Node) : Type 0 where
  pub valid : IsValid d
  pub in_net : n < length d.nodes
  pub target : config_of node.target ≡ target_of d.nodes n
  pub capacity : node.received.capacity ≡ (network_of d).capacity ((network_of d).into n)
