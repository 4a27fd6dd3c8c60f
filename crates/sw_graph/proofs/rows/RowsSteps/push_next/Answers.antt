use Rattle.std.proofs.Common.{◌++◌, ◌∙◌, List, ap, sym}
use Rattle.std.specs.Prelude.{ℕ}
use Rattle.std.proofs.lemmas.List.{append-nil, take_all}
use Rattle.sw_graph.proofs.Listed.{row_at}
use Rattle.sw_graph.proofs.Numbers.{pushed_more}
use Rattle.sw_graph.proofs.rows.RowsSteps.push_next.Goals as goal

pub loop-d-init : goal.loop-d-init
loop-d-init c = sym (append-nil c.args.to.now.items)

pub loop-d-preserved : goal.loop-d-preserved
loop-d-preserved c = pushed_more c.args.to.now.items c.loop-d.to.items c.push.new.self.items _ c.loop-d.d-index c.from.result c.loop-d-test.true c.from.ensures c.loop-d.invariant c.in_ok-push.ensures.items

pub returns : goal.returns
returns c =
    let xs = c.deref-d-items.result.now in
    c.loop-d.invariant
    ∙ ap (λ (l : List ℕ). c.args.to.now.items ++ l) (take_all c.loop-d.d-index xs c.loop-d-test.false ∙ c.deref-d-items.ensures.value ∙ sym (row_at c.args.self.now.rows.now c.args.number c.index-self-number.result c.requires))
