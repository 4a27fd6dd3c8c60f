use Rattle.std.proofs.Common.{◌≡◌, ◌++◌, string_bytes, take}
use Rattle.std.specs.List.{flat_map}
use Rattle.sw_explain.specs.DrawTexts.{field_text}
use Rattle.sw_explain.proofs.dot_parts.add_switch.Given as goal

abbrev pub invariant-loop-port : goal.invariant-loop-port
invariant-loop-port l = string_bytes l.text ≡ string_bytes l.initial.text ++ flat_map field_text (take l.port-index l.port-items)
