use Rattle.std.proofs.Common.{◌≡◌, ◌++◌, string_bytes}
use Rattle.std.specs.List.{flat_map, range_with_len}
use Rattle.sw_explain.specs.ExplainTexts.{step_line}
use Rattle.sw_explain.proofs.tangle_texts.add_tangle.Given as goal

abbrev pub invariant-loop-i : goal.invariant-loop-i
invariant-loop-i l = string_bytes l.text ≡ string_bytes l.initial.text ++ flat_map (step_line l.network l.all l.tangle.cycle l.tangle.flows.items) (range_with_len 0 l.i)
