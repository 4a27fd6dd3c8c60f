use Rattle.std.proofs.Common.{◌≡◌, ◌++◌, string_bytes}
use Rattle.std.specs.List.{flat_map, range_with_len}
use Rattle.sw_explain.specs.Drawings.{drawn_over}
use Rattle.sw_explain.specs.DrawTexts.{channel_statement, node_statement, switch_statement}
use Rattle.sw_explain.proofs.dot_text.draw_text.Given as goal

abbrev pub invariant-loop-node : goal.invariant-loop-node
invariant-loop-node l = string_bytes l.text ≡ string_bytes l.initial.text ++ flat_map (node_statement l.network) (range_with_len 0 l.node)

abbrev pub invariant-loop-switch : goal.invariant-loop-switch
invariant-loop-switch l = string_bytes l.text ≡ string_bytes l.initial.text ++ flat_map (switch_statement l.network) (range_with_len 0 l.switch)

abbrev pub invariant-loop-number : goal.invariant-loop-number
invariant-loop-number l = string_bytes l.text ≡ string_bytes l.initial.text ++ flat_map (channel_statement l.network (drawn_over l.places l.cycle l.numbers)) (range_with_len 0 l.number)
