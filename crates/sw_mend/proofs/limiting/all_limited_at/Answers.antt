use Rattle.std.proofs.Common.{◌≡◌, ◌<◌, ◌∙◌, Bool, true, false, arith, length, sym}
use Rattle.std.specs.Prelude.{◌==◌, ◌||◌, not}
use Rattle.sw_config.specs.Entries.{FlowEntry, all_flows}
use Rattle.sw_config.specs.Limits.{is_limited}
use Rattle.sw_mend.proofs.Tested.{all_at, not_all_at}
use Rattle.sw_mend.proofs.limiting.all_limited_at.Goals as goal

pub returns-then-not-is_no_other : goal.returns-then-not-is_no_other
returns-then-not-is_no_other c =
    let flows = all_flows c.args.network.now in
    let lt : c.loop-flow.flow < length flows = omega (arith, c.loop-flow-test.true, c.flows-flow-end.ensures.count) in
    sym (not_all_at (λ (f : FlowEntry). not (f.to == c.args.node) || is_limited c.args.network.now.nodes f) flows c.loop-flow.flow lt (sym c.is_no_other.ensures ∙ c.if-not-is_no_other.true))

pub loop-flow-preserved : goal.loop-flow-preserved
loop-flow-preserved c =
    let flows = all_flows c.args.network.now in
    let lt : c.loop-flow.flow < length flows = omega (arith, c.loop-flow-test.true, c.flows-flow-end.ensures.count) in
    all_at (λ (f : FlowEntry). not (f.to == c.args.node) || is_limited c.args.network.now.nodes f) flows c.loop-flow.flow lt (sym c.is_no_other.ensures ∙ c.if-not-is_no_other.false) c.loop-flow.invariant
