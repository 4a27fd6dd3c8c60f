use Rattle.std.proofs.Common.{◌≡◌, false, rules, true}
use Rattle.sw_explain.specs.ExplainTexts.{is_number_told}
use Rattle.sw_output.proofs.EachLine.{next_left_out, next_passes}
use Rattle.sw_explain.proofs.owed_texts.told_commands.Goals as goal

pub loop-flow-preserved-then-not-is_told : goal.loop-flow-preserved-then-not-is_told
loop-flow-preserved-then-not-is_told c =
    let other : is_number_told c.args.network.now c.args.node c.loop-flow.flow ≡ false = search rules in
    next_left_out (is_number_told c.args.network.now c.args.node) c.loop-flow.flow c.loop-flow.flows.items c.loop-flow.invariant other

pub loop-flow-preserved : goal.loop-flow-preserved
loop-flow-preserved c =
    let told : is_number_told c.args.network.now c.args.node c.loop-flow.flow ≡ true = search rules in
    next_passes (is_number_told c.args.network.now c.args.node) c.loop-flow.flow c.loop-flow.flows.items c.push.new.self.items c.loop-flow.invariant told c.in_ok-push.ensures.items
