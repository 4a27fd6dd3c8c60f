use Rattle.std.proofs.Common.{◌≡◌, ◌==◌, string_bytes}
use Rattle.sw_explain.proofs.First.{NonePasses}
use Rattle.sw_explain.proofs.dot_marks.add_step_mark.Given as goal

abbrev pub invariant-loop-before : goal.invariant-loop-before
invariant-loop-before l = (string_bytes l.text ≡ string_bytes l.fn.text) × NonePasses (λ e. e == l.channel) l.cycle l.before
