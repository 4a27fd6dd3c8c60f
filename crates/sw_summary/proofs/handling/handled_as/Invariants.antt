use Rattle.std.specs.Prelude.{◌==◌}
use Rattle.sw_summary.specs.Handlings.{handling_index, handling_of}
use Rattle.sw_summary.proofs.Counted.{AreCounted}
use Rattle.sw_summary.proofs.handling.handled_as.Given as goal

abbrev pub invariant-loop-packet : goal.invariant-loop-packet
invariant-loop-packet l = AreCounted (λ p. handling_index (handling_of p.bytes) == handling_index l.handling) l.packets l.packet-index l.count
