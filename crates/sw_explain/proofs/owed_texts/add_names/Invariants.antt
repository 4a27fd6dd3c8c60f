use Rattle.std.proofs.Common.{◌≡◌, ◌++◌, codes, take, string_bytes}
use Rattle.std.specs.List.{flat_map}
use Rattle.sw_explain.specs.ExplainTexts.{name_and_limit}
use Rattle.sw_explain.proofs.owed_texts.add_names.Given as goal

abbrev pub invariant-loop-flow : goal.invariant-loop-flow
invariant-loop-flow l = string_bytes l.text ≡ string_bytes l.initial.text ++ flat_map (λ f. codes ", " ++ name_and_limit l.network f) (take l.flow-index l.rest)
