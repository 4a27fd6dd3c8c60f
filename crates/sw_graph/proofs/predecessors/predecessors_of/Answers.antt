use Rattle.std.proofs.Common.{◌≡◌, ◌<◌, ℕ, All, length, sym, ap, ◌∙◌, subst, arith}
use Rattle.sw_graph.specs.Rows.{row}
use Rattle.sw_graph.proofs.Listed.{row_read, row_within}
use Rattle.sw_graph.proofs.RelationSteps.{begun_all, begun_more, begun_none, whole}
use Rattle.sw_graph.proofs.predecessors.predecessors_of.Goals as goal

pub loop-c-init : goal.loop-c-init
loop-c-init c = begun_none c.args.successors.now c.in_ok-predecessors.predecessors.items c.in_ok-predecessors.ensures.size c.in_ok-predecessors.ensures.empty

pub add_to_each-requires : goal.add_to_each-requires
add_to_each-requires c =
    let g = c.args.successors.now in
    let k = c.loop-c.c in
    let same : c.deref.result.now ≡ row g k = c.deref.ensures.value ∙ sym (row_read g k c.index-successors-c.result c.loop-c-test.true c.index-successors-c.is) in
    let size : length c.deref_mut.result.now ≡ length g = ap length c.deref_mut.ensures.value ∙ c.loop-c.invariant.size in
    subst (λ (n : ℕ). All (λ d. d < n) c.deref.result.now) (sym size) (subst (All (λ d. d < length g)) (sym same) (row_within g k c.requires.graph c.loop-c-test.true))

pub loop-c-preserved : goal.loop-c-preserved
loop-c-preserved c =
    let g = c.args.successors.now in
    let k = c.loop-c.c in
    let before = c.loop-c.predecessors.items in
    let size : length c.add_to_each.new.rows ≡ length before = c.add_to_each.auto.rows ∙ ap length c.deref_mut.ensures.value in
    let e = whole c.loop-c.predecessors.len c.add_to_each.new.rows before c.loop-c.predecessors.ok.0 size in
    let same : c.deref.result.now ≡ row g k = c.deref.ensures.value ∙ sym (row_read g k c.index-successors-c.result c.loop-c-test.true c.index-successors-c.is) in
    let added = rw c.deref_mut.ensures.value at c.in_ok-add_to_each.ensures in
    rw e (begun_more g k before c.add_to_each.new.rows c.deref.result.now c.loop-c.invariant same added)

pub returns : goal.returns
returns c =
    let low = c.loop-c-test.false in
    let high = c.loop-c.auto.c-end in
    begun_all c.args.successors.now c.loop-c.predecessors.items c.loop-c.c c.loop-c.invariant (omega arith)
