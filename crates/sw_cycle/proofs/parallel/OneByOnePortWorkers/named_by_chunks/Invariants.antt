use Rattle.std.specs.List.{AllZip, range_with_len}
use Rattle.sw_cycle.specs.Chunks.{IsNamedChunk}
use Rattle.sw_cycle.proofs.parallel.OneByOnePortWorkers.named_by_chunks.Given as goal

abbrev pub invariant-loop-chunk : goal.invariant-loop-chunk
invariant-loop-chunk l = AllZip (λ chunk n. IsNamedChunk l.network chunk n) (range_with_len 0 l.chunk) l.parts.items
