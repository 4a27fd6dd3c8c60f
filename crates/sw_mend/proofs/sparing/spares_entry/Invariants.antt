use Rattle.sw_mend.proofs.Touching.{UnusedBelow}
use Rattle.sw_mend.proofs.sparing.spares_entry.Given as goal

abbrev pub invariant-loop-byte : goal.invariant-loop-byte
invariant-loop-byte l = UnusedBelow l.route.first l.bytes l.switch l.byte
