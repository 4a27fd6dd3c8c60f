use Rattle.std.proofs.Common.{◌≡◌, false, take}
use Rattle.std.specs.Prelude.{fold}
use Rattle.std.specs.List.{list_any}
use Rattle.sw_mend.specs.Changes.{loses_entry, ports_after}
use Rattle.sw_mend.proofs.tables.add_route.Given as goal

abbrev pub invariant-loop-change : goal.invariant-loop-change
invariant-loop-change l =
    (list_any (λ change. loses_entry change l.switch l.entry) (take l.change-index l.changes) ≡ false)
    × (l.ports ≡ fold (λ ports change. ports_after change l.switch l.entry ports) l.route.ports (take l.change-index l.changes))
