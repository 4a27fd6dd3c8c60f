use Rattle.std.proofs.Common.{◌≡◌}
use Rattle.std.specs.List.{filter, range_with_len}
use Rattle.sw_explain.specs.ExplainTexts.{is_number_told}
use Rattle.sw_explain.proofs.owed_texts.told_commands.Given as goal

abbrev pub invariant-loop-flow : goal.invariant-loop-flow
invariant-loop-flow l = l.flows.items ≡ filter (is_number_told l.network l.node) (range_with_len 0 l.flow)
