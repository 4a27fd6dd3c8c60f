use Rattle.std.proofs.Common.{◌≡◌, ◌+◌, length, take}
use Rattle.sw_char.specs.Packets.{IsCut}
use Rattle.sw_char.proofs.packet.packets.Given as goal

abbrev pub invariant-loop-i : goal.invariant-loop-i
invariant-loop-i l = record { cut : IsCut (take l.i l.chars) l.whole.items l.bytes.items; start : l.start + length l.bytes.items ≡ l.i }
