use Rattle.std.proofs.Common.{◌≡◌, ◌++◌, map, string_bytes, take}
use Rattle.sw_linter.specs.CirclingTexts.{circling_text}
use Rattle.sw_linter.proofs.circling_words.add_circlings.Given as goal

abbrev pub invariant-loop-circling : goal.invariant-loop-circling
invariant-loop-circling l = map string_bytes l.texts.items ≡ map string_bytes l.initial.texts.items ++ map (circling_text l.network) (take l.circling-index l.circling-items)
