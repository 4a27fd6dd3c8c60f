use Rattle.std.proofs.Common.{List, ℕ, Option, take, get_or, sym, subst, ◌∙◌}
use Rattle.std.proofs.lemmas.List.{take_all, take_more}
use Rattle.sw_graph.specs.Rows.{row}
use Rattle.sw_graph.specs.Walking.{IsLeastOf}
use Rattle.sw_graph.proofs.Peels.{least_kept, least_more, left_some}
use Rattle.sw_graph.proofs.cycle.least_before.Goals.{then-not-is_marked, else-not-is_marked}
use Rattle.sw_graph.proofs.cycle.least_before.Goals as goal

pub loop-other-preserved : goal.loop-other-preserved
loop-other-preserved c =
    let xs = c.row_of-other-items.result.now in
    let i = c.loop-other.other-index in
    let e = get_or xs i 0 in
    let more = take_more xs i 0 c.loop-other-test.true in
    elim c.if-not-is_marked.branch [
      | then-not-is_marked w ↦ rw (w.least-is, w.lesser_of.ensures, more) (least_more (take i xs) c.args.done.now e c.loop-other.least c.loop-other.invariant (sym c.is_marked.ensures ∙ w.if-not-is_marked.true))
      | else-not-is_marked w ↦ rw (w.least-is, more) (least_kept (take i xs) c.args.done.now e c.loop-other.least c.loop-other.invariant (sym c.is_marked.ensures ∙ w.if-not-is_marked.false))
    ]

pub unwrap-requires : goal.unwrap-requires
unwrap-requires c =
    let before = c.requires.goes_on c.args.c c.requires.inside c.requires.left in
    let all = subst (λ (l : List ℕ). IsLeastOf l c.args.done.now c.loop-other.least) (take_all c.loop-other.other-index c.row_of-other-items.result.now c.loop-other-test.false ∙ c.row_of-other-items.ensures) c.loop-other.invariant in
    left_some (row c.args.predecessors.now c.args.c) c.args.done.now c.loop-other.least before.0 all before.1 before.2

pub returns : goal.returns
returns c =
    let all = subst (λ (l : List ℕ). IsLeastOf l c.args.done.now c.loop-other.least) (take_all c.loop-other.other-index c.row_of-other-items.result.now c.loop-other-test.false ∙ c.row_of-other-items.ensures) c.loop-other.invariant in
    let Q : Option ℕ → Type 0 = IsLeastOf (row c.args.predecessors.now c.args.c) c.args.done.now in
    subst Q c.unwrap.ensures all
