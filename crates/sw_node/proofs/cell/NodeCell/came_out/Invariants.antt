use Rattle.std.proofs.Common.{◌≡◌, take}
use Rattle.sw_node.proofs.cell.NodeCell.came_out.Given as goal

abbrev pub invariant-loop-packet : goal.invariant-loop-packet
invariant-loop-packet l = l.packets.items ≡ take l.packet-index l.self.packets
