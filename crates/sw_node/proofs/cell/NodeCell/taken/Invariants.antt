use Rattle.std.proofs.Common.{◌≡◌, take}
use Rattle.sw_char.specs.Packets.{chars}
use Rattle.sw_node.proofs.cell.NodeCell.taken.Given as goal

abbrev pub invariant-loop-packet : goal.invariant-loop-packet
invariant-loop-packet l = l.chars.items ≡ chars (take l.packet-index l.self.packets)
