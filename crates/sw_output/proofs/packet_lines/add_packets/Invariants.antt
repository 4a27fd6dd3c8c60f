use Rattle.std.proofs.Common.{◌≡◌, ◌++◌, string_bytes, take}
use Rattle.std.specs.List.{flat_map}
use Rattle.sw_output.specs.PacketTexts.{packet_line}
use Rattle.sw_output.proofs.packet_lines.add_packets.Given as goal

abbrev pub invariant-loop-packet : goal.invariant-loop-packet
invariant-loop-packet l = string_bytes l.text ≡ string_bytes l.fn.text ++ flat_map (packet_line l.name) (take l.packet-index l.packets)
