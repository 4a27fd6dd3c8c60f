use Rattle.std.proofs.Common.{◌≡◌, false, take}
use Rattle.sw_text.specs.Table.{is_known}
use Rattle.sw_text.proofs.table.is_known.Given as goal

abbrev pub invariant-loop-key : goal.invariant-loop-key
invariant-loop-key l = is_known (take l.key-index l.known) l.name ≡ false
