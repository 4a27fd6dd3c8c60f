use Rattle.std.proofs.Common.{◌≡◌, ◌++◌, map, string_bytes, take}
use Rattle.sw_linter.specs.Notes.{note_view}
use Rattle.sw_linter.specs.declared.network_notes.NoteKind.TheVariants.{Circling}
use Rattle.sw_linter.proofs.network_notes.circling_notes.Given as goal

abbrev pub invariant-loop-text : goal.invariant-loop-text
invariant-loop-text l = l.notes.items ≡ l.initial.notes.items ++ map (λ s. note_view Circling (string_bytes s)) (take l.text-index l.text-items)
