use Rattle.std.proofs.Common.{sym}
use Rattle.std.proofs.lemmas.List.{drop-drop}
use Rattle.sw_node.proofs.sending.Sending.advance.Goals as goal
use Rattle.sw_node.specs.Node.{packet_chars}

pub returns : goal.returns
returns c =
    let s = c.self.inside in
    rw (← c.self.view_is) (sym (drop-drop 1 s.sent (packet_chars s.bytes.items s.end)))
