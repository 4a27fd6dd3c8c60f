use Rattle.std.proofs.Common.{◌≡◌, ◌++◌, take, string_bytes}
use Rattle.std.specs.List.{flat_map}
use Rattle.sw_changes.specs.MendTexts.{pair_line}
use Rattle.sw_changes.proofs.mend_texts.add_pairs.Given as goal

abbrev pub invariant-loop-pair : goal.invariant-loop-pair
invariant-loop-pair l = string_bytes l.text ≡ string_bytes l.initial.text ++ flat_map (pair_line l.network) (take l.pair-index l.pairs)
