use Rattle.std.proofs.Common.{◌≡◌, ◌∙◌, ◌++◌, List, String, Global, ap, map, string_bytes, take}
use Rattle.std.proofs.lemmas.List.{take_all}
use Rattle.sw_linter.specs.Notes.{NoteView, note_view}
use Rattle.sw_linter.specs.declared.network_notes.NoteKind.TheVariants.{Circling}
use Rattle.sw_linter.proofs.Circles.{circling_notes_are}
use Rattle.sw_linter.proofs.network_notes.circling_notes.Goals as goal

pub returns : goal.returns
returns c =
    let d = c.args.network.now in
    let texts : List (String Global) = c.in_ok-texts.texts.items in
    let told = c.in_ok-texts.ensures in
    let all : take c.loop-text.text-index c.deref-text-items.result.now ≡ texts = take_all c.loop-text.text-index c.deref-text-items.result.now c.loop-text-test.false ∙ c.deref-text-items.ensures.value in
    let noted : c.loop-text.notes.items ≡ map (λ (s : String Global). note_view Circling (string_bytes s)) (take c.loop-text.text-index c.deref-text-items.result.now) =
    c.loop-text.invariant ∙ ap (λ (front : List NoteView). front ++ map (λ (s : String Global). note_view Circling (string_bytes s)) (take c.loop-text.text-index c.deref-text-items.result.now)) c.new-notes.ensures.items in
    (told.0, told.1, noted ∙ ap (map (λ (s : String Global). note_view Circling (string_bytes s))) all ∙ circling_notes_are d texts told.0 told.2)
