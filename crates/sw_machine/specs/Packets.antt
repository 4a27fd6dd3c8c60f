-- Packets, and how a list of N-Chars is cut into them, as sw_char has them.
pub use Rattle.sw_char.specs.PacketView.{PacketView as Packet}
pub use Rattle.sw_char.specs.Packets.{IsCut, chars, chars_of, marker_of}
use Rattle.sw_char.specs.declared.nchar.NChar.{NChar}
use Rattle.sw_char.specs.declared.nchar.NChar.TheVariants.{Data, Eep, Eop}
use Rattle.std.specs.Prelude.{Bool, true, false}

abbrev pub is_marker : NChar → Bool
is_marker (Data byte) = false
is_marker Eop = true
is_marker Eep = true
