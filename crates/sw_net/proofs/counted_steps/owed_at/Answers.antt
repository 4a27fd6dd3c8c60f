use Rattle.sw_net.proofs.CountedSteps.{owed_at_node, owed_at_switch}
use Rattle.sw_net.proofs.Told.{start_at_node, start_at_switch}
use Rattle.sw_net.proofs.counted_steps.owed_at.Goals as goal

pub returns-in-Node : goal.returns-in-Node
returns-in-Node g c =
    let v = c.args.net.now in
    owed_at_node v c.place_of.ensures.sound.valid c.args.end c.in-Node.node c.owed_with_limit.result (start_at_node v.declared c.args.end c.in-Node.node c.in-Node.ensures.starts) c.owed_with_limit.ensures

pub returns-in-Switch : goal.returns-in-Switch
returns-in-Switch g c =
    let v = c.args.net.now in
    owed_at_switch v c.place_of.ensures.sound.valid c.args.end c.in-Switch.field-0 (start_at_switch v.declared c.args.end c.in-Switch.field-0 c.in-Switch.field-1 c.in-Switch.ensures.starts)
