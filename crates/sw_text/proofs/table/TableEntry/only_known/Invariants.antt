use Rattle.std.proofs.Common.{◌≡◌}
use Rattle.std.specs.Prelude.{find}
use Rattle.std.specs.BTreeMap.{keys}
use Rattle.sw_text.proofs.Members.{is_unknown}
use Rattle.sw_text.proofs.table.TableEntry.only_known.Given as goal

abbrev pub invariant-loop-key : goal.invariant-loop-key
invariant-loop-key l = find (is_unknown l.known) (keys l.self.table.now) ≡ find (is_unknown l.known) l.key-iterator
