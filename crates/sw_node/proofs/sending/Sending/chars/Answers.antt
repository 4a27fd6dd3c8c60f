use Rattle.std.proofs.Common.{◌∙◌, sym}
use Rattle.std.proofs.lemmas.List.{take_rest}
use Rattle.sw_char.specs.Packets.{marker_of}
use Rattle.sw_node.proofs.Characters.{some_left}
use Rattle.sw_node.proofs.sending.Sending.chars.Goals as goal

pub returns : goal.returns
returns c =
    let s = c.self.inside in
    rw (c.in_ok-push_chars.ensures, c.new-chars.ensures.items, take_rest c.deref.result.now s.sent, c.deref.ensures.value) (some_left s.bytes.items s.sent (marker_of s.end) c.args.self.now (sym c.self.view_is) (sym c.is_empty.ensures ∙ c.if-is_empty.false))
