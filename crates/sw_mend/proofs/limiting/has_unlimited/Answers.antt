use Rattle.std.proofs.Common.{◌<◌, ◌∙◌, arith, length, sym}
use Rattle.sw_mend.specs.Limitings.{is_unlimited}
use Rattle.sw_mend.proofs.Tested.{any_at, none_at}
use Rattle.sw_mend.proofs.limiting.has_unlimited.Goals as goal

pub returns-then-is_unlimited : goal.returns-then-is_unlimited
returns-then-is_unlimited c =
    let flows = c.args.network.now.flows in
    let lt : c.loop-flow.flow < length flows = omega (arith, c.loop-flow-test.true, c.declared_flows-flow-end.ensures.count) in
    sym (any_at (is_unlimited c.args.network.now.nodes) flows c.loop-flow.flow lt (sym c.is_unlimited.ensures ∙ c.if-is_unlimited.true))

pub loop-flow-preserved : goal.loop-flow-preserved
loop-flow-preserved c =
    let flows = c.args.network.now.flows in
    let lt : c.loop-flow.flow < length flows = omega (arith, c.loop-flow-test.true, c.declared_flows-flow-end.ensures.count) in
    none_at (is_unlimited c.args.network.now.nodes) flows c.loop-flow.flow lt (sym c.is_unlimited.ensures ∙ c.if-is_unlimited.false) c.loop-flow.invariant
