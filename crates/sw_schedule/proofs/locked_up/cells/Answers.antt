use Rattle.std.proofs.Common.{◌<◌, ◌≡◌, ◌++◌, ◌∙◌, List, ap, append-nil, arith, length, map, subst, sym}
use Rattle.std.proofs.lemmas.List.Elements.{All-push}
use Rattle.std.specs.List.{All, range_with_len}
use Rattle.sw_net.specs.Places.{IsIn}
use Rattle.sw_net.specs.CellId.{CellId}
use Rattle.sw_net.specs.CellId.TheVariants.{Node, Switch}
use Rattle.sw_schedule.proofs.PartLists.{one_more, one_more_behind}
use Rattle.sw_schedule.proofs.locked_up.cells.Goals as goal

pub loop-n-preserved : goal.loop-n-preserved
loop-n-preserved c =
    let d = c.args.network.now in
    let all = c.loop-n.all.items in
    let is = c.in_ok-push.ensures.items in
    let inside : c.loop-n.n < length d.nodes = omega (arith, c.loop-n-test.true, c.nodes-n-end.ensures.count) in
    record {
      cells = one_more Node all c.push.new.self.items c.loop-n.n c.loop-n.invariant.cells is;
      inside = subst (λ (l : List CellId). All (IsIn d) l) (sym is) (All-push (IsIn d) all (Node c.loop-n.n) c.loop-n.invariant.inside inside);
    }

pub loop-w-preserved : goal.loop-w-preserved
loop-w-preserved c =
    let d = c.args.network.now in
    let all = c.loop-w.all.items in
    let is = c.in_ok-push-2.ensures.items in
    let inside : c.loop-w.w < length d.switches = omega (arith, c.loop-w-test.true, c.switches-w-end.ensures.count) in
    record {
      cells = one_more_behind Switch (map Node (range_with_len 0 (length d.nodes))) all c.push-in-loop-w.new.self.items c.loop-w.w c.loop-w.invariant.cells is;
      inside = subst (λ (l : List CellId). All (IsIn d) l) (sym is) (All-push (IsIn d) all (Switch c.loop-w.w) c.loop-w.invariant.inside inside);
    }

pub loop-w-init : goal.loop-w-init
loop-w-init c =
    let d = c.args.network.now in
    let is : c.loop-n.n ≡ length d.nodes = omega (arith, c.loop-n-test.false, c.loop-n.auto.n-end, c.nodes-n-end.ensures.count) in
    record {
      cells = c.loop-n.invariant.cells ∙ ap (λ k. map Node (range_with_len 0 k)) is ∙ sym (append-nil (map Node (range_with_len 0 (length d.nodes))));
      inside = c.loop-n.invariant.inside;
    }

pub returns-clause-cells : goal.returns-clause-cells
returns-clause-cells c =
    let d = c.args.network.now in
    let is : c.loop-w.w ≡ length d.switches = omega (arith, c.loop-w-test.false, c.loop-w.auto.w-end, c.switches-w-end.ensures.count) in
    c.loop-w.invariant.cells ∙ ap (λ k. map Node (range_with_len 0 (length d.nodes)) ++ map Switch (range_with_len 0 k)) is

pub returns-clause-inside : goal.returns-clause-inside
returns-clause-inside c = c.loop-w.invariant.inside
