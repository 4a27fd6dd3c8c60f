use Rattle.std.proofs.Common.{List, ap, ◌∙◌}
use Rattle.sw_config.specs.Entries.{FlowEntry, Declaration, replies_of}
use Rattle.sw_config.specs.Limits.{outstanding_of}
use Rattle.sw_config.proofs.Flows.{new_reply_name, flow_more, flow_refused}
use Rattle.sw_config.proofs.LimitRows.{limits_more}
use Rattle.sw_config.proofs.network.Network.add_flow.Goals as goal

pub add_reply-requires : goal.add_reply-requires
add_reply-requires c =
    rw c.self.invariant.replied (new_reply_name c.args.flow.name c.self.inside.flows (rw (← c.self.view_is) at c.requires.new_name))

pub invariant_of-self-in_default : goal.invariant_of-self-in_default
invariant_of-self-in_default c =
    let inside = c.self.inside in
    let d : Declaration = record { nodes = inside.nodes.items; switches = inside.switches.items; links = inside.links.items; flows = inside.flows } in
    rw c.in_default.ensures.ok
    (flow_more inside.topology inside.names inside.replies inside.limits d c.args.flow c.add_reply.new.self c.add_limited.new.limits c.self.invariant c.in_ok-add_reply.ensures.ok
    (rw c.in_default.ensures.limits
    (limits_more d c.args.flow inside.limits c.outstanding-own.result c.self.invariant.limited c.self.invariant.valid.nodes
    (rw (← c.self.view_is) at c.requires.flow)
    ((rw (← c.self.view_is) at c.outstanding-own.ensures.outstanding) ∙ ap (outstanding_of d.nodes) c.from.ensures)))
    (rw (← c.self.view_is) at c.requires.few) (rw (← c.self.view_is) at c.requires.new_name) (rw (← c.self.view_is) at c.requires.flow))

pub add_limited-requires-clause-new_name : goal.add_limited-requires-clause-new_name
add_limited-requires-clause-new_name c = rw (← c.self.view_is) at c.requires.new_name

pub invariant_of-self-in-Err : goal.invariant_of-self-in-Err
invariant_of-self-in-Err c =
    let inside = c.self.inside in
    let d : Declaration = record { nodes = inside.nodes.items; switches = inside.switches.items; links = inside.links.items; flows = inside.flows } in
    flow_refused inside.topology inside.names inside.replies
    (replies_of c.args.flow c.args.flow.reply) c.add_reply.new.self c.truncate.new.self c.add_limited.new.self inside.limits c.add_limited.new.limits c.len-replies_before.result d
    c.self.invariant c.in_ok-add_reply.ensures.ok c.len-replies_before.ensures c.truncate.ensures c.in-Err.ensures.err c.in-Err.ensures.limits_kept

pub returns-in-Err-clause-err : goal.returns-in-Err-clause-err
returns-in-Err-clause-err c =
    let inside = c.self.inside in
    let d : Declaration = record { nodes = inside.nodes.items; switches = inside.switches.items; links = inside.links.items; flows = inside.flows } in
    ap (λ (flows : List FlowEntry). record d { flows = flows }) c.in-Err.ensures.err ∙ c.self.view_is

pub returns-clause-ok : goal.returns-clause-ok
returns-clause-ok c =
    let inside = c.self.inside in
    let d : Declaration = record { nodes = inside.nodes.items; switches = inside.switches.items; links = inside.links.items; flows = inside.flows } in
    rw (← c.self.view_is) (ap (λ (flows : List FlowEntry). record d { flows = flows }) c.in_default.ensures.ok)
