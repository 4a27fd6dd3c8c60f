use Rattle.std.proofs.Common.{◌≡◌, ◌∙◌, ℕ, ◌-◌, ◌<◌, ap, arith, length}
use Rattle.std.specs.List.{range_with_len}
use Rattle.rayon.proofs.ListFacts.{IfOk-then}
use Rattle.rayon.proofs.ToStd.{nat_range-All}
use Rattle.sw_json_verdicts.proofs.Chosen.{are_judged}
use Rattle.sw_json_verdicts.proofs.parallel.all_judged.Goals as goal

pub collect-requires-clause-ready : goal.collect-requires-clause-ready
collect-requires-clause-ready g c κs within =
    let ends = c.into_par_iter.ensures in
    let count = length c.args.paths.now in
    let inside = nat_range-All (λ i. i < count) 0 count (λ i low high. high) in
    rw (c.map.ensures.base, c.map.ensures.f, c.with_min_len.ensures.base, ends.0, ends.1) (λ k d lt. (inside k d lt, λ y p. tt))

whole : (n : ℕ) → n - 0 ≡ n
whole n = omega arith

pub returns : goal.returns
returns g c =
    let ends = c.into_par_iter.ensures in
    let base = c.map.result.base.base in
    let count : ℕ = length c.args.paths.now in
    let from : base.start ≡ 0 = (λ i. (c.map.ensures.base i).base.start) ∙ (λ i. (c.with_min_len.ensures.base i).start) ∙ ends.0 in
    let to : base.end ≡ count = (λ i. (c.map.ensures.base i).base.end) ∙ (λ i. (c.with_min_len.ensures.base i).end) ∙ ends.1 in
    IfOk-then c.collect.result _ _ c.collect.ensures (λ v h.
    let chain = h.1 in
    let numbers : chain.0 ≡ range_with_len 0 count = chain.1 ∙ (λ i. range_with_len (from i) (to i - from i)) ∙ ap (range_with_len 0) (whole count) in
    let answers = chain.2 in
    are_judged c.args.options.now (g.S.Storage.gives c.args.storage.now) (g.S.Storage.keeps c.args.storage.now) c.args.paths.now v.items (rw h.2 (rw (numbers, c.map.ensures.f) at answers)))
