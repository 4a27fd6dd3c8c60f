use Rattle.std.proofs.Common.{◌≡◌, ℕ, subst, arith}
use Rattle.std.specs.List.{AllZip, range_with_len}
use Rattle.std.proofs.lemmas.Slice.Zip.{all_zipped_more}
use Rattle.sw_graph.proofs.Ranges.{range_more}
use Rattle.sw_cycle.specs.Chunks.{IsNamedChunk}
use Rattle.sw_cycle.proofs.parallel.OneByOnePortWorkers.named_by_chunks.Goals as goal

pub loop-chunk-preserved : goal.loop-chunk-preserved
loop-chunk-preserved c =
    let n = c.loop-chunk.chunk in
    rw (c.in_ok-push.ensures.items, range_more n)
    (all_zipped_more (λ chunk part. IsNamedChunk c.args.network.now chunk part) (range_with_len 0 n) c.loop-chunk.parts.items n c.in_ok-named_by_chunk.field-0 c.loop-chunk.invariant c.in_ok-named_by_chunk.ensures)

pub returns : goal.returns
returns c =
    let all : c.loop-chunk.chunk ≡ 64 = omega (arith, c.loop-chunk-test.false, c.loop-chunk.auto.chunk-end) in
    subst (λ (n : ℕ). AllZip (λ chunk part. IsNamedChunk c.args.network.now chunk part) (range_with_len 0 n) c.loop-chunk.parts.items) all c.loop-chunk.invariant
