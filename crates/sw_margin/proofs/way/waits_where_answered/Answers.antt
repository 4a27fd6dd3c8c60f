use Rattle.std.proofs.Common.{sym, ap, ◌∙◌}
use Rattle.sw_margin.specs.Bends.{is_just_enough, stall}
use Rattle.sw_margin.proofs.Ways.{with_stall}
use Rattle.sw_margin.proofs.way.waits_where_answered.Goals as goal

pub returns-clause-waits : goal.returns-clause-waits
returns-clause-waits c =
    let d = c.args.network.now in
    with_stall d c.args.flow.now c.in_ok-waits.waits.items _ _ (ap (is_just_enough d) (sym c.from.ensures) ∙ sym c.is_just_enough.ensures ∙ c.if-not-is_just_enough.false) c.in_ok-waits.ensures.waits
    (ap (stall d) (sym c.from-2.ensures) ∙ c.stall.ensures.stall) c.in_ok-push.ensures.items
