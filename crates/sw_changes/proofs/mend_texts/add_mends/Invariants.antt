use Rattle.std.proofs.Common.{◌≡◌, ◌++◌, take, string_bytes}
use Rattle.std.specs.List.{flat_map}
use Rattle.sw_changes.specs.MendTexts.{mend_line}
use Rattle.sw_changes.proofs.mend_texts.add_mends.Given as goal

abbrev pub invariant-loop-change : goal.invariant-loop-change
invariant-loop-change l = string_bytes l.text ≡ string_bytes l.initial.text ++ flat_map (mend_line l.network) (take l.change-index l.changes)
