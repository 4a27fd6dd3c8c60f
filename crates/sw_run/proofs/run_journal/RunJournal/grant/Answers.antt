use Rattle.std.proofs.Common.{Some, ap, arith, length, subst, sym, ◌∙◌, ◌≡◌}
use Rattle.sw_cell.specs.Places.{machine_cell}
use Rattle.sw_cell.specs.declared.cell.CellId.{CellId}
use Rattle.sw_journal.specs.Record.{CellView}
use Rattle.sw_machine.specs.Steps.{Grant}
use Rattle.sw_run.proofs.Grants.{fails, granted, grants_at_node, grants_elsewhere, grants_full, holds, starts_at}
use Rattle.sw_run.proofs.Noted.{noted_full}
use Rattle.sw_run.proofs.run_journal.RunJournal.grant.Goals as goal
use Rattle.sw_run.specs.Grants.{Grants, Takes}
use Rattle.sw_run.specs.Notes.{AreTrueNotes}

pub returns-in_default : goal.returns-in_default
returns-in_default g c =
    let self = c.args.self.now in
    let j = self.journal in
    let e = c.args.end in
    let starts = starts_at c.topology.result.now self.network.now j.declared e c.sends.result c.start_of.result c.topology.ensures.wiring (self.network_is ∙ sym self.identity_is.1) c.sends.ensures c.start_of.ensures.place in
    grants_at_node j c.args.locked.now.cell.id c.args.locked.now.arbiters.items e _ (starts ∙ ap Some c.in_default.is)

pub returns-then-not-is : goal.returns-then-not-is
returns-then-not-is g c =
    let self = c.args.self.now in
    let j = self.journal in
    let e = c.args.end in
    let at = c.in-Switch in
    let starts = starts_at c.topology.result.now self.network.now j.declared e c.sends.result c.start_of.result c.topology.ensures.wiring (self.network_is ∙ sym self.identity_is.1) c.sends.ensures c.start_of.ensures.place in
    grants_elsewhere j c.args.locked.now.cell.id c.args.locked.now.arbiters.items e at.w at.out (starts ∙ ap Some at.is) (λ here. fails c.is.result c.if-not-is.true c.is.ensures (ap machine_cell c.id.ensures ∙ here))

pub pick_input-channel-requires-clause-at : goal.pick_input-channel-requires-clause-at
pick_input-channel-requires-clause-at g c = sym (ap machine_cell c.id.ensures) ∙ holds c.is.result c.if-not-is.false c.is.ensures

pub pick_input-channel-requires-clause-starts : goal.pick_input-channel-requires-clause-starts
pick_input-channel-requires-clause-starts g c =
    let self = c.args.self.now in
    starts_at c.topology.result.now self.network.now g.W.RunIdentity.declared c.args.end c.sends.result c.start_of.result c.topology.ensures.wiring self.network_is c.sends.ensures c.start_of.ensures.place ∙ ap Some c.in-Switch.is

pub returns-then-len-self : goal.returns-then-len-self
returns-then-len-self g c = subst (λ t. Grants c.args.self.now.journal c.args.locked.now.cell.id c.args.locked.now.arbiters.items c.args.end t c.args.self.now.journal c.args.locked.now.arbiters.items) (sym c.end.ensures.over) (grants_full c.args.self.now.journal c.args.locked.now.cell.id c.args.locked.now.arbiters.items c.args.end)

pub invariant_of-self-clause-notes_are : goal.invariant_of-self-clause-notes_are
invariant_of-self-clause-notes_are g c =
    let self = c.args.self.now in
    let full : length self.journal.history ≡ self.journal.limit = omega (arith, c.if-len-self.true, c.len.ensures.len, self.identity_is.3, self.limit_is) in
    subst (AreTrueNotes self.journal) (sym c.end.ensures.noted) (noted_full self.journal self.notes self.notes_are full)

pub returns : goal.returns
returns g c =
    let self = c.args.self.now in
    let j = self.journal in
    let e = c.args.end in
    let channel = c.pick_input-channel.result in
    let turn = c.commit.result in
    let k = c.commit.new.self.journal in
    let at = ap (λ (v : CellView). v.id) c.pick_input-channel.ensures.cell in
    let takes = subst (λ n. Takes j c.args.locked.now.cell.id (Grant n channel) turn k) c.sends-2.ensures
    (subst (λ (id : CellId). Takes j id (Grant c.sends-2.result channel) turn k) at c.commit.ensures.takes) in
    let room : length j.history ≡ j.limit → ⊥ = λ full. (let no : ⊥ = omega (arith, c.if-len-self.false, c.len.ensures.len, full, self.identity_is.3, self.limit_is) in absurd no) in
    granted j k c.args.locked.now.cell.id c.args.locked.now.arbiters.items c.pick_input-channel.new.locked.arbiters.items c.commit.new.locked.arbiters.items e channel turn takes
    c.pick_input-channel.ensures.can c.pick_input-channel.ensures.picked c.commit.ensures.arbiters room
