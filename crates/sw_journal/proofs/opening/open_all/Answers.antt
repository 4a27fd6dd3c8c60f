use Rattle.std.proofs.Common.{[], ap, append_assoc, append-nil, length, map, refl, subst, sym, ◌++◌, ◌∙◌, ◌∷◌}
use Rattle.sw_cell.specs.declared.cell.CellId.{CellId}
use Rattle.sw_cell.specs.declared.cell.CellId.TheVariants.{Node, Switch}
use Rattle.std.specs.List.{range_with_len}
use Rattle.std.specs.Prelude.{List}
use Rattle.sw_history.proofs.Ready.{all_counted}
use Rattle.sw_journal.proofs.Opened.{ids_more}
use Rattle.sw_journal.proofs.opening.open_all.Goals as goal
use Rattle.sw_config.specs.Entries.{Declaration}
use Rattle.sw_journal.specs.Opening.{AreOpened, node_ids}

pub loop-n-preserved : goal.loop-n-preserved
loop-n-preserved c =
    let i = c.loop-n.invariant in
    let made = c.in_ok-open.ensures in
    record {
      seat = made.seat ∙ i.seat;
      opened = subst (λ (ids : List CellId). AreOpened c.args.net.now.declared c.args.table.now.shared.table_id ids c.open.new.cells.items c.open.new.seat.me) (sym (ids_more (λ k. Node k) c.loop-n.n)) (made.opened (node_ids c.loop-n.n) i.opened);
    }

pub loop-w-preserved : goal.loop-w-preserved
loop-w-preserved c =
    let i = c.loop-w.invariant in
    let made = c.in_ok-open-2.ensures in
    let nodes = node_ids (length c.args.net.now.declared.nodes) in
    let switches = map (λ k. Switch k) (range_with_len 0 c.loop-w.w) in
    let more = ap (λ (l : List CellId). nodes ++ l) (ids_more (λ k. Switch k) c.loop-w.w) ∙ sym (append_assoc nodes switches (Switch c.loop-w.w ∷ [])) in
    record {
      seat = made.seat ∙ i.seat;
      opened = subst (λ (ids : List CellId). AreOpened c.args.net.now.declared c.args.table.now.shared.table_id ids c.open-in-loop-w.new.cells.items c.open-in-loop-w.new.seat.me) (sym more) (made.opened (nodes ++ switches) i.opened);
    }

pub loop-n-init : goal.loop-n-init
loop-n-init c = record { seat = refl; opened = c.requires.opened }

pub loop-w-init : goal.loop-w-init
loop-w-init c =
    let i = c.loop-n.invariant in
    let d = c.args.net.now.declared in
    let count = all_counted c.loop-n.n c.nodes-n-end.result (length d.nodes) c.loop-n-test.false c.loop-n.auto.n-end (c.nodes-n-end.ensures.count ∙ ap (λ (e : Declaration). length e.nodes) c.network.ensures.network) in
    record {
      seat = i.seat;
      opened = subst (λ (ids : List CellId). AreOpened d c.args.table.now.shared.table_id ids c.loop-n.cells.items c.loop-n.seat.me) (ap node_ids count ∙ sym (append-nil (node_ids (length d.nodes)))) i.opened;
    }

pub open-requires : goal.open-requires
open-requires c = record {
  state = c.requires.state;
  table = c.requires.table;
  seat = c.loop-n.invariant.seat ∙ c.requires.seat;
  opened = (node_ids c.loop-n.n, c.loop-n.invariant.opened);
}

pub open-requires-in-loop-w : goal.open-requires-in-loop-w
open-requires-in-loop-w c = record {
  state = c.requires.state;
  table = c.requires.table;
  seat = c.loop-w.invariant.seat ∙ c.requires.seat;
  opened = (node_ids (length c.args.net.now.declared.nodes) ++ map (λ k. Switch k) (range_with_len 0 c.loop-w.w), c.loop-w.invariant.opened);
}

pub returns-clause-opened : goal.returns-clause-opened
returns-clause-opened c =
    let d = c.args.net.now.declared in
    let count = all_counted c.loop-w.w c.switches-w-end.result (length d.switches) c.loop-w-test.false c.loop-w.auto.w-end (c.switches-w-end.ensures.count ∙ ap (λ (e : Declaration). length e.switches) c.network-2.ensures.network) in
    subst (λ w. AreOpened d c.args.table.now.shared.table_id (node_ids (length d.nodes) ++ map (λ k. Switch k) (range_with_len 0 w)) c.loop-w.cells.items c.loop-w.seat.me) count c.loop-w.invariant.opened
