use Rattle.std.proofs.Common.{◌≡◌, [], replicate}
use Rattle.circular_buffer.specs.Buffer.{buffer}
use Rattle.sw_link.proofs.wires.rings.Given as goal

abbrev pub invariant-loop : goal.invariant-loop
invariant-loop l = l.rings.items ≡ replicate l.counter (buffer [] 56)
