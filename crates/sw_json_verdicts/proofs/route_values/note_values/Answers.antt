use Rattle.std.proofs.Common.{◌∙◌, Global, Option, String, string_bytes, subst}
use Rattle.std.specs.Prelude.{option_map}
use Rattle.sw_linter.specs.CirclingTexts.{IsCirclingText}
use Rattle.sw_json_verdicts.proofs.NoteTexts.{one_text}
use Rattle.sw_json_verdicts.proofs.route_values.note_values.Goals as goal

pub returns-in_ok-vec-in-Some : goal.returns-in_ok-vec-in-Some
returns-in_ok-vec-in-Some c =
    let d = c.args.network.now in
    let texts = c.deref.ensures.value ∙ c.in_ok-vec-in-Some.ensures.items in
    one_text d c.args.flow c.in-Some.text c.deref.result.now c.text_values.result texts
    (subst (λ (o : Option (String Global)). IsCirclingText d c.args.flow (option_map string_bytes o)) c.in-Some.is c.in_ok-text.ensures)
    c.text_values.ensures
