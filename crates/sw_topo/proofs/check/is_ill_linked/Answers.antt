use Rattle.std.proofs.Common.{◌≡◌, ◌+◌, eqb, not, true, false, get_or, ap, sym, ◌∙◌, arith}
use Rattle.std.specs.Prelude.{count_by}
use Rattle.std.proofs.lemmas.List.{take_all}
use Rattle.std.proofs.lemmas.List.Sums.{count_by_more_yes, count_by_more_no}
use Rattle.sw_topo.specs.Wiring.{is_node}
use Rattle.sw_topo.proofs.check.is_ill_linked.Goals as goal
use Rattle.sw_topo.proofs.check.is_ill_linked.Goals.{then-is_node, else-is_node}

pub loop-end-preserved : goal.loop-end-preserved
loop-end-preserved c =
    let p = is_node c.args.node in
    let ends = c.args.ends.now in
    let i = c.loop-end.end-index in
    let end = c.end-item.result in
    elim c.if-is_node.branch [
      | then-is_node w ↦
          let passes : p (get_or ends i end) ≡ true = ap p (sym c.end-item.is) ∙ sym c.is_node.ensures ∙ w.if-is_node.true in
          record { count = w.linked-is ∙ ap (λ n. n + 1) c.loop-end.invariant.count ∙ sym (count_by_more_yes p ends i end c.loop-end-test.true passes); few = omega (arith, w.linked-is, c.loop-end.invariant.few) }
      | else-is_node w ↦
          let fails : p (get_or ends i end) ≡ false = ap p (sym c.end-item.is) ∙ sym c.is_node.ensures ∙ w.if-is_node.false in
          record { count = w.linked-is ∙ c.loop-end.invariant.count ∙ sym (count_by_more_no p ends i end c.loop-end-test.true fails); few = omega (arith, w.linked-is, c.loop-end.invariant.few) }
    ]

pub returns : goal.returns
returns c = ap (λ n. not (eqb n 1)) (c.loop-end.invariant.count ∙ ap (count_by (is_node c.args.node)) (take_all c.loop-end.end-index c.args.ends.now c.loop-end-test.false))
