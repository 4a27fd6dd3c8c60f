use Rattle.std.proofs.Common.{◌∙◌, ◌<◌, ap, arith, max}
use Rattle.rayon.specs.Lists.{chunks_of, chunks_size, chunks_slice}
use Rattle.sw_cert.proofs.WrittenLists.{texts_made}
use Rattle.sw_cert.proofs.write_workers.texts_side_by_side.Goals as goal

pub returns : goal.returns
returns g c =
    let made = c.in_ok-texts.ensures in
    let base = ap (λ it. it.base) c.map.ensures.base ∙ c.with_min_len.ensures.base in
    let size = ap chunks_size base ∙ c.par_chunks.ensures.size in
    let slice = ap chunks_slice base ∙ c.par_chunks.ensures.slice in
    let some : 0 < max c.flows_a_part.result 1 = omega arith in
    texts_made (max c.flows_a_part.result 1) c.args.flows.now made.1.0 made.0 c.in_ok-texts.texts some
    (made.1.1 ∙ (λ i. chunks_of (max (size i) 1) (slice i))) made.1.2 made.2
