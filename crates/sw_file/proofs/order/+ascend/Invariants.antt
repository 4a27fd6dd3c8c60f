use Rattle.std.proofs.Common.{◌≡◌, true, ◌++◌, List, take}
use Rattle.toml.specs.Data.{items_are_sorted}
use Rattle.toml.specs.View.{items_view, members_view}
use Rattle.toml.proofs.Views.{Entry, values_sorted}
use Rattle.sw_file.proofs.order.+ascend.Given as goal

abbrev pub invariant-array_ascends-items : goal.invariant-array_ascends-items
invariant-array_ascends-items l = items_are_sorted (items_view (take l.item-index l.item-items)) ≡ true

abbrev pub invariant-table_ascends-members : goal.invariant-table_ascends-members
invariant-table_ascends-members l = (done : List Entry) × (l.table.entries ≡ done ++ l._key-iterator) × (values_sorted (members_view done) ≡ true)
