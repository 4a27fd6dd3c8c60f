use Rattle.std.proofs.Common.{◌≡◌, ◌∙◌}
use Rattle.std.specs.List.{range_with_len}
use Rattle.rayon.proofs.ToStd.{nat_range-All}
use Rattle.sw_graph.proofs.Answers.{all_made, numbers_are}
use Rattle.sw_graph.proofs.side_by_side.map_all.Goals as goal

pub collect-requires-clause-ready : goal.collect-requires-clause-ready
collect-requires-clause-ready g c κs within =
    let ends = c.into_par_iter.ensures in
    let inside = nat_range-All _ 0 c.args.count (λ i low high. c.requires i high) in
    rw (c.map.ensures.base, c.map.ensures.f, c.with_min_len.ensures.base, ends.0, ends.1) (λ k d lt. (inside k d lt, λ y p. tt))

pub returns : goal.returns
returns g c =
    let ends = c.into_par_iter.ensures in
    let base = c.map.result.base.base in
    let from : base.start ≡ 0 = (λ i. (c.map.ensures.base i).base.start) ∙ (λ i. (c.with_min_len.ensures.base i).start) ∙ ends.0 in
    let to : base.end ≡ c.args.count = (λ i. (c.map.ensures.base i).base.end) ∙ (λ i. (c.with_min_len.ensures.base i).end) ∙ ends.1 in
    let made = c.in_ok-all.ensures in
    let gives = made.1 in
    let numbers = numbers_are gives.0 base.start base.end c.args.count gives.1 from to in
    let answers = gives.2 in
    all_made (λ v. v.items) (λ i y. g.F.Fn.post c.args.call (i, tt) y) (range_with_len 0 c.args.count) made.0 c.in_ok-all.all (rw (numbers, c.map.ensures.f) at answers) made.2
