use Rattle.std.proofs.Common.{◌≡◌, get_or, take, [], ◌∷◌, ◌++◌, sym, ap, ◌∙◌, arith, append_assoc, append-nil}
use Rattle.std.proofs.lemmas.Grind.{common_steps}
use Rattle.std.proofs.lemmas.List.{take_more}
use Rattle.toml.proofs.Views.{Entry, items_are_sorted-last, values_sorted-last, members_are_sorted-from}
use Rattle.sw_file.proofs.order.+ascend.Goals as goal

pub array_ascends-items-preserved : goal.array_ascends-items-preserved
array_ascends-items-preserved t c =
    let xs = c.deref-item-items.result.now in
    let i = c.items.item-index in
    let item = c.item-item.result in
    let at : get_or xs i item ≡ item = grind (arith, common_steps) in
    rw (take_more xs i item c.items-test.true, at) (items_are_sorted-last (take i xs) item c.items.invariant c.value_ascends.ensures)

pub table_ascends-members-preserved : goal.table_ascends-members-preserved
table_ascends-members-preserved t c =
    let (done, whole, sorted) = c.members.invariant in
    let e : Entry = (c.in-Some._key.now, c.in-Some.member.now) in
    let iter : c.members._key-iterator ≡ e ∷ c.next.new.self = grind (arith, common_steps) in
    let all = whole ∙ ap (λ l. done ++ l) iter ∙ sym (append_assoc done (e ∷ []) c.next.new.self) in
    (done ++ e ∷ [], all, values_sorted-last done e sorted c.value_ascends.ensures)

pub table_ascends-returns : goal.table_ascends-returns
table_ascends-returns t c =
    let (done, whole, sorted) = c.members.invariant in
    let none : c.members._key-iterator ≡ [] = grind (arith, common_steps) in
    let all : c.args.table.now.entries ≡ done = whole ∙ rw none (append-nil done) in
    rw all (members_are_sorted-from done (rw all at c.iter-key-items.ensures.ordered) sorted)
