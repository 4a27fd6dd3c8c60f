-- How packets that came out are written (this project's choice).
use Rattle.std.specs.Prelude.{ℕ, List, [], ◌∷◌, codes, flat_map, length, slice_index_or}
use Rattle.std.specs.Fmt.{decimal}
use Rattle.std.specs.List.{range_with_len}
use Rattle.hex.specs.Hex.{encode_upper}
use Rattle.sw_char.specs.declared.nchar.End.{End}
use Rattle.sw_char.specs.declared.nchar.End.TheVariants.{Eop, Eep}
use Rattle.sw_char.specs.PacketView.{PacketView}
use Rattle.sw_config.specs.Entries.{Declaration}
use Rattle.sw_output.specs.ChannelTexts.{node_name}
use Rattle.sw_output.specs.Lines.{line}

-- how many characters are undelivered
abbrev pub undelivered_line : ℕ → List ℕ
undelivered_line count = line (codes "undelivered" ∷ decimal count ∷ [])

abbrev pub end_text : End → List ℕ
end_text Eop = codes "EOP"
end_text Eep = codes "EEP"

-- bytes as pairs of hexadecimal digits, with upper case letters; `-` stands for none
abbrev pub bytes_text : List ℕ → List ℕ
bytes_text [] = codes "-"
bytes_text (b ∷ bytes) = encode_upper (b ∷ bytes)

-- how many packets came out at a node
abbrev pub node_line : List ℕ → List PacketView → List ℕ
node_line name packets = line (codes "node" ∷ name ∷ codes "packets" ∷ decimal (length packets) ∷ [])

abbrev pub packet_line : List ℕ → PacketView → List ℕ
packet_line name p = line (codes "packet" ∷ name ∷ bytes_text p.bytes ∷ end_text p.end ∷ [])

-- a line for each packet that came out at a node
abbrev pub packet_lines : List ℕ → List PacketView → List ℕ
packet_lines name packets = flat_map (packet_line name) packets

-- the text of each node's packets, node by node
abbrev pub by_node : (List ℕ → List PacketView → List ℕ) → Declaration → List (List PacketView) → List ℕ
by_node text d all = flat_map (λ n. text (node_name d n) (slice_index_or all n [])) (range_with_len 0 (length d.nodes))
