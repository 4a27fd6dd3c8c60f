use Rattle.std.proofs.Common.{sym}
use Rattle.sw_char.specs.Packets.{marker_of}
use Rattle.sw_node.proofs.Characters.{next_byte}
use Rattle.sw_node.proofs.sending.Sending.first.Goals as goal

pub returns-in-Some : goal.returns-in-Some
returns-in-Some c =
    let s = c.self.inside in
    let h = rw c.deref.ensures.value at c.in-Some.ensures.lookup in
    rw (← c.self.view_is) (sym (next_byte s.bytes.items s.sent c.in-Some.byte.now (marker_of s.end) h.3.0 h.1))
