use Rattle.std.proofs.Common.{◌≡◌, take, string_bytes}
use Rattle.std.specs.List.{flat_map}
use Rattle.sw_explain.specs.ExplainTexts.{tangle_text}
use Rattle.sw_explain.proofs.tangle_texts.tangles_text.Given as goal

abbrev pub invariant-loop-tangle : goal.invariant-loop-tangle
invariant-loop-tangle l = string_bytes l.text ≡ flat_map (tangle_text l.network l.all) (take l.tangle-index l.tangles)
