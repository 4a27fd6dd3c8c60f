use Rattle.std.proofs.Common.{◌≡◌, ◌++◌, take}
use Rattle.sw_mend.specs.Changes.{by_number, entry_away}
use Rattle.sw_mend.proofs.listing.add_entries_of.Given as goal

abbrev pub invariant-loop-entry : goal.invariant-loop-entry
invariant-loop-entry l = l.changes.items ≡ l.initial.changes.items ++ by_number (entry_away l.switch) 0 (take l.entry l.routes)
