use Rattle.std.proofs.Common.{ap, ◌∙◌, sym}
use Rattle.std.proofs.lemmas.Result.{IfOk-weaker}
use Rattle.sw_explain.specs.Drawings.{AreNumbersDrawn, Wishes}
use Rattle.sw_explain.proofs.NotFree.{none_drawn, numbers_copied}
use Rattle.sw_explain.proofs.draw_finding.numbers_drawn.Goals as goal

pub returns-then-count-gt0 : goal.returns-then-count-gt0
returns-then-count-gt0 g c =
    let wishes = c.args.options.now in
    rw c.new-then-count-gt0.ensures.items (none_drawn c.args.network.now wishes.cycle wishes.numbers c.args.cycle.now c.requires c.if-count-gt0.true)

pub returns : goal.returns
returns g c =
    let asked = ap (λ (w : Wishes). w.numbers) (sym c.options.view_is) ∙ c.if-not-options.false in
    IfOk-weaker c.to_vec.result _ (λ numbers. AreNumbersDrawn c.args.network.now c.args.options.now.numbers numbers.items)
    (λ numbers same. numbers_copied c.args.network.now c.args.options.now.numbers c.in_ok-verdict.verdict numbers.items asked
    c.in_ok-verdict.ensures.verdict (same (λ x y is. is) ∙ c.numbers_of.ensures)) c.to_vec.ensures.items_if_clones_equal
