use Rattle.std.proofs.Common.{Some, None, ◌∙◌, sym, ap, ◌+◌, arith}
use Rattle.std.specs.Str.{bytes_eq}
use Rattle.sw_config.specs.Entries.{Declaration, reply_flows}
use Rattle.sw_config.proofs.Flows.{found_declared, found_reply, few_replies_in, within_first, within_second}
use Rattle.sw_config.proofs.network.Network.flow_named.Goals as goal

pub returns-in-Some-clause-number : goal.returns-in-Some-clause-number
returns-in-Some-clause-number c =
    let inside = c.self.inside in
    let d : Declaration = record { nodes = inside.nodes.items; switches = inside.switches.items; links = inside.links.items; flows = inside.flows } in
    rw (← c.self.view_is) (sym (found_declared (bytes_eq c.args.name.now) d c.in-Some.number (sym c.in-Some.ensures.number)))

pub returns-in_default-number_of-clause-number : goal.returns-in_default-number_of-clause-number
returns-in_default-number_of-clause-number c =
    let inside = c.self.inside in
    let d : Declaration = record { nodes = inside.nodes.items; switches = inside.switches.items; links = inside.links.items; flows = inside.flows } in
    rw (← c.self.view_is)
    (sym (found_reply (bytes_eq c.args.name.now) d inside.replies None c.self.invariant.replied (sym c.number_of.ensures.number ∙ c.in_default.is) (sym c.number_of-2.ensures.number ∙ c.in_default-number_of.is)))

pub overflow_add-result : goal.overflow_add-result
overflow_add-result c =
    omega (arith, c.in-Some-number_of.ensures.within, c.self.invariant.valid.few_flows, few_replies_in c.self.invariant)

pub overflow_cast-result-2 : goal.overflow_cast-result-2
overflow_cast-result-2 c =
    omega (arith, c.in-Some-number_of.ensures.within, c.self.invariant.valid.few_flows, few_replies_in c.self.invariant)

pub returns-clause-number : goal.returns-clause-number
returns-clause-number c =
    let inside = c.self.inside in
    let d : Declaration = record { nodes = inside.nodes.items; switches = inside.switches.items; links = inside.links.items; flows = inside.flows } in
    rw (← c.self.view_is)
    (ap (λ n. Some (n + c.in-Some-number_of.number)) c.len.ensures
    ∙ sym (found_reply (bytes_eq c.args.name.now) d inside.replies (Some c.in-Some-number_of.number) c.self.invariant.replied (sym c.number_of.ensures.number ∙ c.in_default.is) (sym c.in-Some-number_of.ensures.number)))

pub overflow_cast-result : goal.overflow_cast-result
overflow_cast-result c = omega (arith, c.in-Some.ensures.within, c.self.invariant.valid.few_flows)

pub returns-in-Some-clause-within : goal.returns-in-Some-clause-within
returns-in-Some-clause-within c =
    let inside = c.self.inside in
    rw (← c.self.view_is) (within_first inside.flows (reply_flows inside.flows) c.in-Some.number c.in-Some.ensures.within)

pub returns-clause-within : goal.returns-clause-within
returns-clause-within c =
    let inside = c.self.inside in
    rw (← c.self.view_is)
    (within_second inside.flows (reply_flows inside.flows) inside.replies c.len.result c.in-Some-number_of.number c.len.ensures c.self.invariant.replied c.in-Some-number_of.ensures.within)
