use Rattle.std.proofs.Common.{None, Some, ap, arith, length, subst, ◌<◌, ◌≡◌}
use Rattle.std.specs.Prelude.{slice_get}
use Rattle.sw_config.specs.Entries.{Declaration}
use Rattle.sw_config.specs.Valid.{IsValid}
use Rattle.sw_flow.specs.Places.{ends_of}
use Rattle.sw_history.proofs.Idle.{begins_told, cannot_begin, from_told, node_begins, none_begins, switch_begins}
use Rattle.sw_history.proofs.history.History.may_begin_at.Goals as goal
use Rattle.sw_history.specs.History.{HistoryView, IsKept}
use Rattle.sw_load.specs.History.{packet_of}
use Rattle.sw_machine.specs.Begun.{Begun}
use Rattle.sw_machine.specs.Model.{network_of}
use Rattle.sw_net.proofs.Told.{start_at_node, start_at_switch}
use Rattle.sw_topo.specs.declared.place.PlaceEnd.TheVariants.{Node, Switch}

pub place_of-requires : goal.place_of-requires
place_of-requires g c =
    let same = ap (λ (k : HistoryView). length k.declared.links) c.self.view_is in
    let r = c.requires in
    omega (arith, same, r)

pub returns-then-not-can_begin-clause-none : goal.returns-then-not-can_begin-clause-none
returns-then-not-can_begin-clause-none g c =
    let in_self = c.self.inside in
    let now = c.args.self.now in
    let kept = subst (λ (k : HistoryView). IsKept in_self.net k in_self.begun.items in_self.unanswered) c.self.view_is c.self.invariant.0 in
    let valid = subst IsValid kept.network c.place_of.ensures.sound.valid in
    let starts = start_at_node now.declared c.args.end c.in-Node.node (subst (λ (d : Declaration). slice_get (ends_of d) c.args.end ≡ Some (Node c.in-Node.node)) kept.network c.in-Node.ensures.starts) in
    none_begins in_self.net now in_self.begun.items kept valid c.args.end c.in-Node.node starts {X = Begun} None (cannot_begin in_self.net now in_self.begun.items kept c.in-Node.node c.if-not-can_begin.ensures)

pub returns-else-not-can_begin-clause-some : goal.returns-else-not-can_begin-clause-some
returns-else-not-can_begin-clause-some g c =
    let in_self = c.self.inside in
    let now = c.args.self.now in
    let node = c.in-Node.node in
    let kept = subst (λ (k : HistoryView). IsKept in_self.net k in_self.begun.items in_self.unanswered) c.self.view_is c.self.invariant.0 in
    let valid = subst IsValid kept.network c.place_of.ensures.sound.valid in
    let starts = start_at_node now.declared c.args.end node (subst (λ (d : Declaration). slice_get (ends_of d) c.args.end ≡ Some (Node node)) kept.network c.in-Node.ensures.starts) in
    let lt = subst (λ (d : Declaration). c.args.end < (network_of d).channels) kept.network c.place_of.ensures.within in
    let some = begins_told in_self.net now in_self.begun.items kept node c.if-not-can_begin.ensures (λ p. packet_of p.now) c.next_within.result c.next_within.ensures.some c.next_within.ensures.keeps in
    let from = from_told now.declared now.load now.steps node (λ p. packet_of p.now) c.next_within.result c.next_within.ensures.some in
    node_begins in_self.net now in_self.begun.items kept valid c.args.end node starts lt (λ p. packet_of p.now) c.next_within.result some from

pub returns-else-not-can_begin-clause-none : goal.returns-else-not-can_begin-clause-none
returns-else-not-can_begin-clause-none g c =
    let in_self = c.self.inside in
    let now = c.args.self.now in
    let node = c.in-Node.node in
    let kept = subst (λ (k : HistoryView). IsKept in_self.net k in_self.begun.items in_self.unanswered) c.self.view_is c.self.invariant.0 in
    let valid = subst IsValid kept.network c.place_of.ensures.sound.valid in
    let starts = start_at_node now.declared c.args.end node (subst (λ (d : Declaration). slice_get (ends_of d) c.args.end ≡ Some (Node node)) kept.network c.in-Node.ensures.starts) in
    none_begins in_self.net now in_self.begun.items kept valid c.args.end node starts c.next_within.result c.next_within.ensures.none

pub returns-in-Switch-clause-none : goal.returns-in-Switch-clause-none
returns-in-Switch-clause-none g c =
    let in_self = c.self.inside in
    let now = c.args.self.now in
    let kept = subst (λ (k : HistoryView). IsKept in_self.net k in_self.begun.items in_self.unanswered) c.self.view_is c.self.invariant.0 in
    let valid = subst IsValid kept.network c.place_of.ensures.sound.valid in
    let starts = start_at_switch now.declared c.args.end c.in-Switch.field-0 c.in-Switch.field-1 (subst (λ (d : Declaration). slice_get (ends_of d) c.args.end ≡ Some (Switch c.in-Switch.field-0 c.in-Switch.field-1)) kept.network c.in-Switch.ensures.starts) in
    switch_begins in_self.net now in_self.begun.items kept valid c.args.end c.in-Switch.field-0 starts
