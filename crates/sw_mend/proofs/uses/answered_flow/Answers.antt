use Rattle.std.proofs.Common.{◌<◌, ◌∙◌, arith, length, sym}
use Rattle.sw_mend.proofs.Using.{no_more_replies, no_reply, one_reply, reply_found}
use Rattle.sw_mend.proofs.uses.answered_flow.Goals as goal

pub loop-number-preserved-then-not-is_answered : goal.loop-number-preserved-then-not-is_answered
loop-number-preserved-then-not-is_answered c =
    let lt : c.loop-number.number < length c.args.network.now.flows = omega (arith, c.loop-number-test.true, c.declared_flows-number-end.ensures.count) in (
      no_reply c.args.network.now.flows c.loop-number.number _ c.is_answered.result lt c.is_answered.ensures c.if-not-is_answered.true c.loop-number.invariant.0,
      c.loop-number.invariant.1,
    )

pub loop-number-preserved : goal.loop-number-preserved
loop-number-preserved c =
    let lt : c.loop-number.number < length c.args.network.now.flows = omega (arith, c.loop-number-test.true, c.declared_flows-number-end.ensures.count) in (
      one_reply c.args.network.now.flows c.loop-number.number _ c.is_answered.result lt c.is_answered.ensures c.if-not-is_answered.false c.loop-number.invariant.0,
      omega (arith, c.loop-number.invariant.1, c.if-replies-reply.false),
    )

pub returns-then-replies-reply : goal.returns-then-replies-reply
returns-then-replies-reply c =
    reply_found c.args.network.now c.loop-number.number c.args.reply c.is_answered.result c.is_answered.ensures c.if-not-is_answered.false
    (sym c.if-replies-reply.true ∙ c.loop-number.invariant.0)

pub unreachable-requires : goal.unreachable-requires
unreachable-requires c =
    no_more_replies c.args.network.now.flows c.loop-number.number c.loop-number.replies c.args.reply
    (omega (arith, c.loop-number-test.false, c.declared_flows-number-end.ensures.count)) c.loop-number.invariant.0 c.loop-number.invariant.1 c.requires
