use Rattle.std.proofs.Common.{◌≡◌, take}
use Rattle.std.specs.Prelude.{fold}
use Rattle.sw_linter.specs.Marks.{with_flow}
use Rattle.sw_linter.proofs.node_marks.NodeMarks.note_all.Given as goal

abbrev pub invariant-loop-number : goal.invariant-loop-number
invariant-loop-number l = l.self ≡ fold with_flow l.initial.self (take l.number l.network.flows)
