use Rattle.std.proofs.Common.{◌-◌}
use Rattle.sw_config.specs.Entries.{reply_flows}
use Rattle.sw_config.specs.Valid.{IsFlow}
use Rattle.sw_config.proofs.Flows.{All-at, in_second, past_first, reply_flows_are_flows}
use Rattle.sw_config.proofs.network.Network.flow.Goals as goal
use Rattle.sw_config.proofs.Lists.{at_front}

pub get-requires-else-number-declared : goal.get-requires-else-number-declared
get-requires-else-number-declared c =
    let inside = c.self.inside in
    past_first inside.flows (reply_flows inside.flows) inside.replies c.len-declared.result c.args.number c.len-declared.ensures c.self.invariant.replied (rw (← c.self.view_is) at c.requires)
    c.if-number-declared.false

pub returns-then-number-declared-clause-flow : goal.returns-then-number-declared-clause-flow
returns-then-number-declared-clause-flow c =
    let inside = c.self.inside in
    rw (← c.self.view_is) (at_front inside.flows (reply_flows inside.flows) c.args.number c.get.result.now c.get.ensures)

pub returns-then-number-declared-clause-valid : goal.returns-then-number-declared-clause-valid
returns-then-number-declared-clause-valid c =
    let inside = c.self.inside in
    rw (← c.self.view_is) (All-at (IsFlow inside.nodes.items) inside.flows c.args.number c.get.result.now c.get.ensures c.self.invariant.valid.flows)

pub returns-else-number-declared-clause-flow : goal.returns-else-number-declared-clause-flow
returns-else-number-declared-clause-flow c =
    let inside = c.self.inside in
    rw (← c.self.view_is)
    (in_second inside.flows (reply_flows inside.flows) inside.replies c.len-declared.result c.args.number c.get-else-number-declared.result.now c.len-declared.ensures c.self.invariant.replied
    c.if-number-declared.false c.get-else-number-declared.ensures)

pub returns-else-number-declared-clause-valid : goal.returns-else-number-declared-clause-valid
returns-else-number-declared-clause-valid c =
    let inside = c.self.inside in
    rw (← c.self.view_is)
    (All-at (IsFlow inside.nodes.items) inside.replies (c.args.number - c.len-declared.result) c.get-else-number-declared.result.now c.get-else-number-declared.ensures
    (rw c.self.invariant.replied (reply_flows_are_flows inside.nodes.items inside.flows c.self.invariant.valid.flows)))
