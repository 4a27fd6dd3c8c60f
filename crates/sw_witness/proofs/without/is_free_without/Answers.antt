use Rattle.std.proofs.Common.{ap, sym, ◌∙◌}
use Rattle.std.proofs.lemmas.Result.{IfOk-weaker}
use Rattle.sw_mend.specs.Changes.{changed_by_all}
use Rattle.sw_witness.proofs.Away.{is_free_without, limited_away, none_away}
use Rattle.sw_witness.proofs.without.is_free_without.Goals as goal

pub returns-then-is_empty : goal.returns-then-is_empty
returns-then-is_empty g c = none_away c.args.network.now c.args.flows.now (sym c.is_empty.ensures ∙ c.if-is_empty.true) c.requires

pub returns : goal.returns
returns g c =
    IfOk-weaker c.is_free-free.result _ _
    (λ b h. is_free_without c.args.network.now _ c.args.flows.now b (sym c.is_empty.ensures ∙ c.if-is_empty.false) (c.has_no_limits.ensures.0 c.if-not-has_no_limits.false) c.requires
    (c.in_ok-left.ensures ∙ ap (changed_by_all c.args.network.now) (c.deref.ensures.value ∙ c.in_ok-changes.ensures)) h)
    c.is_free-free.ensures

pub returns-then-not-has_no_limits : goal.returns-then-not-has_no_limits
returns-then-not-has_no_limits g c = limited_away c.args.network.now c.has_no_limits.result c.if-not-has_no_limits.true c.has_no_limits.ensures
