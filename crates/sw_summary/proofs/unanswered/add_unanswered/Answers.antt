use Rattle.std.proofs.Common.{string_bytes, ◌∙◌}
use Rattle.sw_summary.proofs.UntoldCommands.{no_more_told, more_told}
use Rattle.sw_summary.proofs.unanswered.add_unanswered.Goals as goal

pub loop-i-preserved-then-not-is_target : goal.loop-i-preserved-then-not-is_target
loop-i-preserved-then-not-is_target c =
    no_more_told c.args.network.now c.args.begun.now c.loop-i.i c.to.result c.declared_flow-flow.result.now c.is_target.result (string_bytes c.args.text.now) (string_bytes c.loop-i.text)
    c.declared_flow-flow.ensures.flow c.to.ensures c.is_target.ensures c.if-not-is_target.true c.loop-i.invariant

pub loop-i-preserved : goal.loop-i-preserved
loop-i-preserved c =
    more_told c.args.network.now c.args.begun.now c.loop-i.i c.to.result c.declared_flow-flow.result.now c.is_target.result c.name.result.now c.deref.result.now (string_bytes c.args.text.now)
    (string_bytes c.loop-i.text) (string_bytes c.add_reasons.new.text) c.declared_flow-flow.ensures.flow c.to.ensures c.is_target.ensures c.if-not-is_target.false c.name.ensures
    (c.deref.ensures.value ∙ c.in_ok-packets.ensures) c.loop-i.invariant c.in_ok-add_reasons.ensures
