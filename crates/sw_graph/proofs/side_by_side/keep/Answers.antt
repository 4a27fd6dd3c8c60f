use Rattle.std.proofs.Common.{◌≡◌, sym, ap, ◌∙◌, subst}
use Rattle.rayon.proofs.ListFacts.{IfOk-then}
use Rattle.sw_graph.specs.Found.{AreKept}
use Rattle.sw_graph.proofs.Answers.{kept_answered}
use Rattle.sw_graph.proofs.side_by_side.keep.Goals as goal

pub returns : goal.returns
returns g c =
    let slice = ap (λ it. it.base.base.slice.now) c.filter.ensures.base ∙ ap (λ it. it.base.slice.now) c.with_min_len.ensures.base ∙ ap (λ it. it.slice.now) c.copied.ensures ∙ c.par_iter.ensures in
    let same : c.filter.result.f.0.now ≡ c.args.test = λ i. (c.filter.ensures.f i).0.now in
    IfOk-then c.collect.result _ _ c.collect.ensures (λ v h.
    let chain = h.1 in
    let base = chain.2 in
    let kept = kept_answered (λ x b. g.F.Fn.post c.filter.result.f.0.now (x, tt) b) chain.0 chain.1 chain.3 in
    let here = rw (sym (h.2 ∙ chain.4), base.2 ∙ base.1 ∙ slice) at kept in
    subst (λ t. AreKept (λ x b. g.F.Fn.post t (x, tt) b) c.args.members.now v.items) same here)
