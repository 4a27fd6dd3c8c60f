use Rattle.std.proofs.Common.{◌≡◌, ◌++◌, map, take}
use Rattle.sw_faults.specs.declared.note.Note.TheVariants.{LinkHere}
use Rattle.sw_faults.proofs.notes.add_links.Given as goal

abbrev pub invariant-loop-link : goal.invariant-loop-link
invariant-loop-link l = l.notes.items ≡ l.initial.notes.items ++ map LinkHere (take l.link-index l.most)
