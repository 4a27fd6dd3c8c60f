use Rattle.std.proofs.Common.{◌∙◌, ap, false, sym, true}
use Rattle.std.specs.List.{list_all}
use Rattle.std.proofs.lemmas.List.{drop_all}
use Rattle.sw_cert.specs.Refusals.{is_in_range}
use Rattle.sw_cert.proofs.Lists.{one_tested}
use Rattle.sw_cert.proofs.counts.are_all_in_range.Goals as goal

pub loop-place-preserved : goal.loop-place-preserved
loop-place-preserved c =
    sym (one_tested (is_in_range c.args.network.now c.args.flow.now) c.args.listed.now c.loop-place.place-index c.place-item.result true c.loop-place-test.true c.place-item.is (sym c.if-not-is_in_range.false ∙ c.is_in_range.ensures))
    ∙ c.loop-place.invariant

pub returns-then-not-is_in_range : goal.returns-then-not-is_in_range
returns-then-not-is_in_range c =
    sym (one_tested (is_in_range c.args.network.now c.args.flow.now) c.args.listed.now c.loop-place.place-index c.place-item.result false c.loop-place-test.true c.place-item.is (sym c.if-not-is_in_range.true ∙ c.is_in_range.ensures))
    ∙ c.loop-place.invariant

pub returns : goal.returns
returns c = sym (ap (list_all (is_in_range c.args.network.now c.args.flow.now)) (drop_all c.loop-place.place-index c.args.listed.now c.loop-place-test.false)) ∙ c.loop-place.invariant
