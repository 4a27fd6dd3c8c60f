use Rattle.std.proofs.Common.{ap, refl, sym, ◌++◌, ◌∙◌, ◌∷◌, []}
use Rattle.sw_journal.proofs.Commit.{account_same, commits_same, ends_within, kept_after, kept_same, met, names_once, now_cell, now_same, refused_same, renewed_then, same_cell_after}
use Rattle.sw_journal.proofs.journal.Journal.commit.Goals as goal
use Rattle.sw_journal.specs.Record.{JournalView, CellView}
use Rattle.sw_machine.specs.Model.{network_of}
use Rattle.sw_machine.specs.StepValues.{machine_step}

pub invariant_of-self : goal.invariant_of-self
invariant_of-self c =
    let i = c.self.invariant in
    let in_table = c.self.inside.table.shared.table_id in
    let h = c.self.inside.history in
    let same = account_same in_table h c.add_at.new.history c.self.inside.limit c.self.inside.marks.items h.steps (refused_same h c.add_at.new.history c.cell.inside.id c.self.inside.limit (machine_step c.args.step) c.in-Err.fault c.in-Err.ensures.adds) in
    (kept_same _ _ c.self.inside.seat.me c.meet.new.seat.me c.part.new.seat.me c.cell.inside.seat.me same i.0 c.meet.ensures.seat c.part.ensures.seat.1, c.part.ensures.seat.0 ∙ c.meet.ensures.table.0 ∙ i.1, i.2)

pub returns-in-Err-clause-numbers : goal.returns-in-Err-clause-numbers
returns-in-Err-clause-numbers c =
    let i = c.self.invariant in
    let m = met _ c.self.inside.seat.me c.cell.inside.seat.me c.cell.inside.number c.cell.inside.id c.cell.inside.ends.items i.0 c.cell.invariant c.meet.ensures.same in
    now_same _ _ _ _ c.self.view_is c.cell.view_is (now_cell _ i.0.true_view.state c.cell.inside.number _ i.0.true_view.history m)

pub renew_after-requires-clause-within : goal.renew_after-requires-clause-within
renew_after-requires-clause-within c =
    let i = c.self.invariant in
    let m = met _ c.self.inside.seat.me c.cell.inside.seat.me c.cell.inside.number c.cell.inside.id c.cell.inside.ends.items i.0 c.cell.invariant c.meet.ensures.same in
    rw (c.in_default.ensures.adds.2.declared) (ends_within (network_of c.self.inside.history.declared) i.0.true_view.state c.cell.inside.id _ c.cell.inside.ends.items i.0.true_view.network i.0.channels m.ends_are)

pub renew_after-requires-clause-once : goal.renew_after-requires-clause-once
renew_after-requires-clause-once c =
    let i = c.self.invariant in
    let m = met _ c.self.inside.seat.me c.cell.inside.seat.me c.cell.inside.number c.cell.inside.id c.cell.inside.ends.items i.0 c.cell.invariant c.meet.ensures.same in
    names_once (network_of c.self.inside.history.declared) i.0.true_view.state c.cell.inside.id c.cell.inside.ends.items m.ends_are

pub invariant_of-self-2 : goal.invariant_of-self-2
invariant_of-self-2 c =
    let i = c.self.invariant in
    let h = c.self.inside.history in
    let adds = c.in_default.ensures.adds in
    let m = met _ c.self.inside.seat.me c.cell.inside.seat.me c.cell.inside.number c.cell.inside.id c.cell.inside.ends.items i.0 c.cell.invariant c.meet.ensures.same in
    let same = account_same c.self.inside.table.shared.table_id h c.add_at.new.history c.self.inside.limit c.self.inside.marks.items (h.steps ++ machine_step c.args.step ∷ []) adds.2 in
    let renew = renewed_then h c.add_at.new.history (h.steps ++ machine_step c.args.step ∷ []) adds.0.1.0 c.changed_ends-these.result c.cell.inside.ends.items c.renew_after.new.ends.items adds.2 adds.0.1.1 c.renew_after.ensures.numbers in (
      kept_after _ c.self.inside.seat.me i.0 c.cell.inside.number c.cell.inside.id c.cell.inside.ends.items m (machine_step c.args.step) adds.0.0 adds.0.1 c.changed_ends-these.result c.changed_ends-these.ensures
          _ c.cell.inside.seat.me c.meet.new.seat.me c.renew_after.new.seat.me c.part-2.new.seat.me c.renew_after.new.ends.items same adds.1 renew c.cell.invariant c.meet.ensures.seat c.renew_after.ensures.seat c.part-2.ensures.seat.1,
      c.part-2.ensures.seat.0 ∙ c.renew_after.ensures.table ∙ c.meet.ensures.table.0 ∙ i.1,
      i.2,
    )

pub returns-clause-commits : goal.returns-clause-commits
returns-clause-commits c =
    let i = c.self.invariant in
    let h = c.self.inside.history in
    let adds = c.in_default.ensures.adds in
    let m = met _ c.self.inside.seat.me c.cell.inside.seat.me c.cell.inside.number c.cell.inside.id c.cell.inside.ends.items i.0 c.cell.invariant c.meet.ensures.same in
    let same = account_same c.self.inside.table.shared.table_id h c.add_at.new.history c.self.inside.limit c.self.inside.marks.items (h.steps ++ machine_step c.args.step ∷ []) adds.2 in
    let renew = renewed_then h c.add_at.new.history (h.steps ++ machine_step c.args.step ∷ []) adds.0.1.0 c.changed_ends-these.result c.cell.inside.ends.items c.renew_after.new.ends.items adds.2 adds.0.1.1 c.renew_after.ensures.numbers in
    let own = ap (λ (v : CellView). v.name) c.cell.view_is ∙ c.requires ∙ sym (ap (λ (a : JournalView). a.name) c.self.view_is) in
    let name = c.part-2.ensures.new.0 ∙ c.renew_after.ensures.table ∙ c.meet.ensures.table.0 ∙ i.1 ∙ sym own in
    let now = same_cell_after _ c.self.inside.seat.me i.0 c.cell.inside.number c.cell.inside.id c.cell.inside.ends.items m (machine_step c.args.step) adds.0.0 adds.0.1 c.changed_ends-these.result c.changed_ends-these.ensures
    _ _ c.renew_after.new.ends.items same refl refl renew in
    commits_same _ _ _ _ _ _ (machine_step c.args.step) c.self.view_is c.cell.view_is ((adds.0.0, adds.0.1), adds.1, same, record { name = name; id = refl; now = now })

pub returns-clause-numbers : goal.returns-clause-numbers
returns-clause-numbers c =
    let i = c.self.invariant in
    let m = met _ c.self.inside.seat.me c.cell.inside.seat.me c.cell.inside.number c.cell.inside.id c.cell.inside.ends.items i.0 c.cell.invariant c.meet.ensures.same in
    now_same _ _ _ _ c.self.view_is c.cell.view_is (now_cell _ i.0.true_view.state c.cell.inside.number _ i.0.true_view.history m)
