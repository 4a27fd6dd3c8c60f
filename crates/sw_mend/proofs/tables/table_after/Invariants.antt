use Rattle.std.proofs.Common.{◌≡◌, take}
use Rattle.sw_mend.specs.Changes.{by_number, route_after_all}
use Rattle.sw_mend.proofs.tables.table_after.Given as goal

abbrev pub invariant-loop-entry : goal.invariant-loop-entry
invariant-loop-entry l = l.table ≡ by_number (route_after_all l.changes l.switch) 0 (take l.entry l.routes)
