-- The objects of packets, nodes and replays have no floats, and are not deep.
use Rattle.std.proofs.Common.{List, [], length, ℕ, ◌+◌}
use Rattle.std.specs.List.{range_with_len}
use Rattle.std.specs.Prelude.{slice_index_or}
use Rattle.serde_json.specs.Data.{Data, array}
use Rattle.serde_json.specs.View.{items_of}
use Rattle.sw_char.specs.PacketView.{PacketView}
use Rattle.sw_config.specs.Entries.{Declaration}
use Rattle.sw_json.proofs.Plain.{count_plain, flag_plain, made_plain, no_more, object_plain, text_or_null_plain, text_plain, with_member}
use Rattle.sw_json.specs.Plain.{IsPlain}
use Rattle.sw_output.specs.ChannelTexts.{node_name}
use Rattle.sw_schedule.specs.Reports.{Report}
use Rattle.sw_runs.specs.PacketValues.{by_node, node_value, packet_value}
use Rattle.sw_runs.specs.ReplayValues.{replay_code, replay_value}

packet_plain : (p : PacketView) → IsPlain 1 (packet_value p)
packet_plain p = object_plain 0 (with_member text_plain (with_member text_plain no_more))

node_plain : (name : List ℕ) (packets : List PacketView) → IsPlain 3 (node_value name packets)
node_plain name packets = object_plain 2 (with_member text_plain (with_member (made_plain 1 packet_value packet_plain packets) no_more))

-- an object for each node
pub nodes_plain : (n : ℕ) (value : List ℕ → List PacketView → Data) → ((name : List ℕ) (packets : List PacketView) → IsPlain n (value name packets))
    → (d : Declaration) (all : List (List PacketView))
    → IsPlain (n + 1) (array (items_of (by_node value d all)))
nodes_plain n value each d all =
    made_plain n (λ (k : ℕ). value (node_name d k) (slice_index_or all k [])) (λ k. each (node_name d k) (slice_index_or all k []))
    (range_with_len 0 (length d.nodes))

pub replay_plain : (d : Declaration) (r : Report) → IsPlain 5 (replay_value d r)
replay_plain d r =
    object_plain 4
    (with_member (text_or_null_plain (replay_code r.outcome))
    (with_member text_plain
    (with_member (nodes_plain 3 node_value node_plain d r.came_out)
    (with_member count_plain (with_member flag_plain (with_member count_plain no_more))))))
