use Rattle.std.proofs.Common.{◌≡◌, ◌++◌, take, string_bytes}
use Rattle.std.specs.List.{flat_map}
use Rattle.sw_summary.specs.Texts.{reasons, unanswered_line}
use Rattle.sw_summary.proofs.unanswered.add_reasons.Given as goal

abbrev pub invariant-loop-reason : goal.invariant-loop-reason
invariant-loop-reason l = string_bytes l.text ≡ string_bytes l.initial.text ++ flat_map (unanswered_line l.name l.packets) (take l.reason-index reasons)
