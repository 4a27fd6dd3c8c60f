use Rattle.sw_margin.proofs.Answerable.{has_reply, unanswered}
use Rattle.sw_margin.proofs.chosen.is_answerable.Goals as goal

pub returns-then-is_none : goal.returns-then-is_none
returns-then-is_none c =
    unanswered c.args.network.now c.args.number c.flow-flow.result.now c.flow-flow.ensures.flow c.requires (λ r. r.now) c.reply.result c.reply.ensures c.is_none.result c.is_none.ensures
    c.goes_one_way.result c.if-is_none.true c.goes_one_way.ensures

pub returns-else-is_none : goal.returns-else-is_none
returns-else-is_none c =
    has_reply c.args.network.now c.args.number c.flow-flow.result.now c.flow-flow.ensures.flow c.requires (λ r. r.now) c.reply.result c.reply.ensures c.is_none.result c.is_none.ensures c.if-is_none.false
