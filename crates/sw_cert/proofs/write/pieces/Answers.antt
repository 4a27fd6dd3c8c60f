use Rattle.std.proofs.Common.{rules, ◌≡◌, ◌+◌, [], ◌∷◌, ap, ◌∙◌, string_bytes}
use Rattle.std.proofs.lemmas.List.{length-append}
use Rattle.sw_cert.specs.Pieces.{piece}
use Rattle.sw_cert.proofs.Numbered.{pieces_more}
use Rattle.sw_cert.proofs.write.pieces.Goals as goal

pub loop-number-preserved : goal.loop-number-preserved
loop-number-preserved c =
    let texts = c.loop-number.pieces.items in
    let made = c.in_ok-format.field-0 in
    let n = c.loop-number.number-counter in
    let before = c.loop-number.invariant in
    let is : string_bytes made ≡ piece c.args.before.now c.args.after.now n = search rules in
    rw c.in_ok-push.ensures.items (length-append texts (made ∷ []) ∙ ap (λ m. m + 1) before.0, pieces_more c.args.before.now c.args.after.now texts made n before.1 before.0 is)
