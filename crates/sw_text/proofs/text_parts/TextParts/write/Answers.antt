use Rattle.sw_text.specs.Parts.{joined}
use Rattle.sw_text.proofs.WrittenParts.{written_after}
use Rattle.sw_text.proofs.text_parts.TextParts.write.Goals as goal

pub returns : goal.returns
returns g c =
    let rest = rw c.deref-2.ensures.value at c.write_parts.ensures in
    let written = written_after c.write_parts.result _ _ _ c.self.inside.first.items (joined c.self.inside.more.items)
    (rw c.deref.ensures.value at c.in_ok-write_whole.ensures.whole) rest.whole rest.beginning in
    rw (← c.self.view_is) (record { whole = written.0; beginning = written.1 })
