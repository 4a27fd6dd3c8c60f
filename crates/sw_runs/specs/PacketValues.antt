-- The objects that stand for packets that came out (this project's choice). An object's members stand in the order of their keys' bytes.
use Rattle.std.specs.Prelude.{ℕ, List, [], codes, length, map, slice_index_or}
use Rattle.std.specs.List.{range_with_len}
use Rattle.hex.specs.Hex.{encode_upper}
use Rattle.serde_json.specs.Data.{Data, array, object, string, member, no_members}
use Rattle.serde_json.specs.View.{items_of}
use Rattle.sw_char.specs.PacketView.{PacketView}
use Rattle.sw_config.specs.Entries.{Declaration}
use Rattle.sw_json.specs.Simple.{count_value}
use Rattle.sw_output.specs.ChannelTexts.{node_name}
use Rattle.sw_output.specs.PacketTexts.{end_text}
use Rattle.sw_output.specs.Tallies.{TallyView, tallies}

-- a packet: its bytes as pairs of hexadecimal digits with upper case letters, and its end
abbrev pub packet_value : PacketView → Data
packet_value p =
    object (member (codes "bytes") (string (encode_upper p.bytes))
    (member (codes "end") (string (end_text p.end)) no_members))

-- the same, with how often it came out
abbrev pub tally_value : TallyView → Data
tally_value t =
    object (member (codes "bytes") (string (encode_upper t.item.bytes))
    (member (codes "count") (count_value t.count)
    (member (codes "end") (string (end_text t.item.end)) no_members)))

-- a node by its name, and the packets that came out there, in their order
abbrev pub node_value : List ℕ → List PacketView → Data
node_value name packets =
    object (member (codes "name") (string name)
    (member (codes "packets") (array (items_of (map packet_value packets))) no_members))

-- a node by its name, how many packets came out there, and the different ones in rising order, each with how often it did
abbrev pub counted_node_value : List ℕ → List PacketView → Data
counted_node_value name packets =
    object (member (codes "count") (count_value (length packets))
    (member (codes "name") (string name)
    (member (codes "packets") (array (items_of (map tally_value (tallies packets)))) no_members)))

-- what stands for each node, by its number
abbrev pub by_node : (List ℕ → List PacketView → Data) → Declaration → List (List PacketView) → List Data
by_node value d all = map (λ n. value (node_name d n) (slice_index_or all n [])) (range_with_len 0 (length d.nodes))
