use Rattle.std.proofs.Common.{◌≡◌, map, take, [], ◌∷◌, ◌++◌}
use Rattle.std.specs.Prelude.{fold}
use Rattle.sw_file.specs.Rows.{after}
use Rattle.sw_file.specs.Seen.{entry_view, row_view}
use Rattle.sw_file.proofs.rows.rows.Given as goal

abbrev pub invariant-loop-entry : goal.invariant-loop-entry
invariant-loop-entry l = map row_view l.done.items ++ row_view l.row ∷ [] ≡ fold after (row_view l.initial.row ∷ []) (take l.entry-index (map entry_view l.rest))
