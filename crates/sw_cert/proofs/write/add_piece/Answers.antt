use Rattle.std.proofs.Common.{◌∙◌, length, refl, string_bytes}
use Rattle.std.proofs.lemmas.Option.{slice_get_read}
use Rattle.sw_cert.proofs.Numbered.{piece_at, pushed}
use Rattle.sw_cert.proofs.write.add_piece.Goals as goal

pub returns-in-Some : goal.returns-in-Some
returns-in-Some c =
    let at = piece_at c.args.before.now c.args.after.now c.args.pieces.now c.args.number c.in-Some.piece.now c.requires (slice_get_read c.args.pieces.now (length c.args.pieces.now) c.args.number c.in-Some.piece.now refl c.in-Some.ensures.lookup.3.0 c.in-Some.ensures.lookup.1) in
    pushed c.push_str.result (string_bytes c.args.text.now) (string_bytes c.push_str.new.self) _ _ (c.as_str.ensures.value ∙ at) c.push_str.ensures.bytes
