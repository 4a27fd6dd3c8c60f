use Rattle.std.proofs.Common.{◌≡◌, ◌∙◌}
use Rattle.std.specs.List.{range_with_len}
use Rattle.rayon.proofs.ToStd.{nat_range-All}
use Rattle.sw_graph.proofs.Answers.{first_answered, numbers_are}
use Rattle.sw_graph.proofs.side_by_side.first_found.Goals as goal

pub find_first-requires-clause-items : goal.find_first-requires-clause-items
find_first-requires-clause-items g c κs within =
    let ends = c.into_par_iter.ensures in
    let inside = nat_range-All _ 0 c.args.count (λ i low high. c.requires i high) in
    rw (c.map.ensures.base, c.map.ensures.f, c.with_min_len.ensures.base, ends.0, ends.1) (λ k d lt. (inside k d lt, λ y p r e. tt))

pub returns : goal.returns
returns g c =
    let ends = c.into_par_iter.ensures in
    let base = c.map.result.base.base in
    let from : base.start ≡ 0 = (λ i. (c.map.ensures.base i).base.start) ∙ (λ i. (c.with_min_len.ensures.base i).start) ∙ ends.0 in
    let to : base.end ≡ c.args.count = (λ i. (c.map.ensures.base i).base.end) ∙ (λ i. (c.with_min_len.ensures.base i).end) ∙ ends.1 in
    let found = c.find_first.ensures in
    let chain = found.2 in
    let numbers = numbers_are chain.0 base.start base.end c.args.count chain.1 from to in
    let answers = chain.2 in
    rw c.flatten.ensures (first_answered (λ i y. g.F.Fn.post c.args.call (i, tt) y) (range_with_len 0 c.args.count) found.0 found.1 c.find_first.result (rw (numbers, c.map.ensures.f) at answers) found.3 found.4)
