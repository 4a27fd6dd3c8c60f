use Rattle.sw_text.proofs.FirstByte.{NoneBefore}
use Rattle.sw_text.proofs.bytes.cut.Given as goal

abbrev pub invariant-loop-end : goal.invariant-loop-end
invariant-loop-end l = NoneBefore l.byte l.text l.end
