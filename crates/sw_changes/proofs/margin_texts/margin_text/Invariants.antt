use Rattle.std.proofs.Common.{◌≡◌, ◌++◌, map, take, string_bytes}
use Rattle.std.specs.List.{flat_map}
use Rattle.sw_changes.specs.MarginTexts.{answer_line, limit_line, loss_lines, stall_line}
use Rattle.sw_changes.proofs.margin_texts.margin_text.Given as goal

abbrev pub invariant-loop-stall : goal.invariant-loop-stall
invariant-loop-stall l = string_bytes l.text ≡ string_bytes l.initial.text ++ flat_map (stall_line l.network) (take l.stall-index l.stall-items)

abbrev pub invariant-loop-answer : goal.invariant-loop-answer
invariant-loop-answer l = string_bytes l.text ≡ string_bytes l.initial.text ++ flat_map (answer_line l.network) (take l.answer-index l.answer-items)

abbrev pub invariant-loop-limit : goal.invariant-loop-limit
invariant-loop-limit l = string_bytes l.text ≡ string_bytes l.initial.text ++ flat_map (limit_line l.network) (take l.limit-index l.limit-items)

abbrev pub invariant-loop-link : goal.invariant-loop-link
invariant-loop-link l = string_bytes l.text ≡ string_bytes l.initial.text ++ loss_lines l.network 0 (map (λ flows. flows.items) (take l.link l.flows-items))
