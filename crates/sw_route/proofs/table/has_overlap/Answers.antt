use Rattle.std.proofs.Common.{get_or, sym, ◌∙◌}
use Rattle.std.proofs.lemmas.List.Folds.{list_any_none}
use Rattle.sw_route.proofs.Entries.{any_passes, any_passes_not, none_above, none_more}
use Rattle.sw_route.specs.Looks.{overlaps}
use Rattle.sw_route.proofs.table.has_overlap.Goals as goal

pub returns-then-route-highest : goal.returns-then-route-highest
returns-then-route-highest c =
    let past = c.if-route-highest.true in
    sym (list_any_none (overlaps c.args.route.now) c.args.routes.now (λ k d lt. none_above c.args.highest c.args.route.now (get_or c.args.routes.now k d) past (c.requires k d lt)))

pub loop-other-preserved : goal.loop-other-preserved
loop-other-preserved c =
    none_more (overlaps c.args.route.now) c.args.routes.now c.loop-other.other-index c.other-item.result c.loop-other-test.true c.other-item.is
    c.loop-other.invariant (sym c.overlaps.ensures ∙ c.if-overlaps.false)

pub returns-then-overlaps : goal.returns-then-overlaps
returns-then-overlaps c =
    sym (any_passes (overlaps c.args.route.now) c.args.routes.now c.loop-other.other-index c.other-item.result c.loop-other-test.true c.other-item.is (sym c.overlaps.ensures ∙ c.if-overlaps.true))

pub returns : goal.returns
returns c = sym (any_passes_not (overlaps c.args.route.now) c.args.routes.now c.loop-other.other-index c.loop-other-test.false c.loop-other.invariant)
