use Rattle.std.proofs.Common.{◌-◌, take, drop, arith, refl, subst}
use Rattle.sw_cert.specs.Parts.{IsRead}
use Rattle.sw_cert.specs.Reading.{state_of}
use Rattle.sw_cert.proofs.Parted.{part_found}
use Rattle.sw_cert.proofs.parts.lists_of.Goals as goal

pub returns-in-Ok : goal.returns-in-Ok
returns-in-Ok c =
    let text = c.args.text.now in
    let part = c.args.part in
    let draft = state_of c.read_lines.new.draft in
    part_found 8192 text _ c.in-Ok.rest.now part draft c.in-Ok.lines c.whole_lists.result (omega arith) c.if-part.false c.if-part-text.false refl
    (subst (λ d. IsRead 0 d (take (part.end - part.begin) (drop part.begin text)) c.in-Ok.lines draft c.in-Ok.rest.now) c.new-draft.ensures c.in-Ok.ensures.read) c.whole_lists.ensures
