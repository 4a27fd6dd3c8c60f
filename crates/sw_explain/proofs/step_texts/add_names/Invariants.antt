use Rattle.std.proofs.Common.{◌≡◌, ◌++◌, take, string_bytes}
use Rattle.std.specs.List.{flat_map}
use Rattle.sw_output.specs.FlowTexts.{flow_name}
use Rattle.sw_explain.proofs.step_texts.add_names.Given as goal

abbrev pub invariant-loop-flow : goal.invariant-loop-flow
invariant-loop-flow l = string_bytes l.text ≡ string_bytes l.initial.text ++ flat_map (λ f. l.between ++ flow_name l.network f) (take l.flow-index l.rest)
