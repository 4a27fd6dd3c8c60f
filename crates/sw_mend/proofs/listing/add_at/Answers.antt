use Rattle.sw_mend.proofs.OneNumber.{flow_added, replies_added, unit_added}
use Rattle.sw_mend.proofs.listing.add_at.Goals as goal

pub returns-in-Replies : goal.returns-in-Replies
returns-in-Replies c =
    replies_added c.args.network.now c.args.kind c.args.number c.add_if-in-Replies.result c.args.changes.now.items c.add_if-in-Replies.new.things.items c.requires c.in-Replies.is
    c.flow-flow.result.now c.is_first_of_several-is_first.result c.from-from.result c.to-to.result c.flow-flow.ensures.flow c.is_first_of_several-is_first.ensures
    c.from-from.ensures c.to-to.ensures c.add_if-in-Replies.ensures

pub returns-in-Flow : goal.returns-in-Flow
returns-in-Flow c =
    flow_added c.args.network.now c.args.kind c.args.number c.add.result c.args.changes.now.items c.add.new.things.items c.requires c.in-Flow.is c.add.ensures

pub returns-in-Unit : goal.returns-in-Unit
returns-in-Unit c =
    unit_added c.args.network.now c.args.kind c.args.number c.add-in-Unit.result c.args.changes.now.items c.add-in-Unit.new.things.items c.requires c.in-Unit.is c.add-in-Unit.ensures
