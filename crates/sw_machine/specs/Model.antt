-- The machine's network of a network that a file declares.
use Rattle.std.specs.Prelude.{ℕ, ◌+◌, [], false, length, slice_get, slice_index, Option, Some, None, option_map, unwrap_or}
use Rattle.std.specs.Option.{option_map_or}
use Rattle.sw_flow.specs.PlaceEnd.{PlaceEnd}
use Rattle.sw_flow.specs.PlaceEnd.TheVariants.{Node, Switch}
use Rattle.sw_flow.specs.Wiring.{out, partner}
use Rattle.sw_flow.specs.Entries.{FlowEntry, Declaration, target_of, look_at, capacities, all_flows}
use Rattle.sw_flow.specs.Limits.{is_limited, limit_at}
use Rattle.sw_flow.specs.NetworkLaws.{replies_before}
use Rattle.sw_flow.specs.Places.{ends_of, end_of}
use Rattle.sw_flow.specs.Numbers.{outputs}
use Rattle.sw_machine.specs.Network.{AtNode, AtSwitch, Cell, Flow, Network, Protocol}
use Rattle.sw_machine.specs.Rmap.{rmap}
use Rattle.sw_rmap.specs.Targets.{slots_of}

-- a link end lies at a node or at a switch
abbrev pub cell_of : Option PlaceEnd → Cell
cell_of None = AtNode 0
cell_of (Some (Node n)) = AtNode n
cell_of (Some (Switch s p)) = AtSwitch s

-- the number of the reply flow of declared flow i: behind all declared flows, in the order of their flows
abbrev pub reply_number : Declaration → ℕ → ℕ
reply_number d i = length d.flows + replies_before d.flows i

abbrev pub flow_of : ℕ → Option FlowEntry → Flow
flow_of reply None = record { from = 0; to = 0; address = []; left = 0; reply = None }
flow_of reply (Some f) = record { from = f.from; to = f.to; address = f.address; left = f.left; reply = option_map (λ r. reply) f.reply }

-- the network of the machine in which the nodes speak this protocol
abbrev pub network_by : Protocol → Declaration → Network
network_by protocol d = record {
  channels = length (ends_of d);
  start_of = λ c. cell_of (slice_get (ends_of d) c);
  end_of = λ c. cell_of (end_of d c);
  capacity = λ c. slice_index (capacities d.links) c;
  nodes = length d.nodes;
  out = λ n. unwrap_or (out (ends_of d) n) 0;
  into = λ n. unwrap_or (option_map partner (out (ends_of d) n)) 0;
  look = λ s h. outputs (ends_of d) s (look_at d.switches s h);
  deletes = λ s h. (look_at d.switches s h).delete;
  declared_flows = length d.flows;
  flows = length (all_flows d);
  flow = λ i. flow_of (reply_number d i) (slice_get (all_flows d) i);
  reply_to = protocol.reply_to;
  answer = protocol.answer;
  slots = λ n. slots_of (target_of d.nodes n);
  limited = λ i. option_map_or (is_limited d.nodes) (slice_get (all_flows d) i) false;
  limit = limit_at d;
  memory_after = protocol.memory_after;
  longest = protocol.longest;
  memory_at_first = protocol.memory_at_first;
}

-- the network of the machine
unfoldable pub network_of : Declaration → Network
network_of d = network_by (rmap d) d
