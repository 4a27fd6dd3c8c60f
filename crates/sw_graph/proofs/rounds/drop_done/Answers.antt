use Rattle.std.proofs.Common.{◌<◌, ℕ, Bool, not, length, sym, ap, ◌∙◌, arith}
use Rattle.std.proofs.lemmas.List.{get_or_default}
use Rattle.sw_graph.specs.Rounds.{is_marked}
use Rattle.sw_graph.proofs.Loops.{moved, passed}
use Rattle.sw_graph.proofs.rounds.drop_done.Goals.{then-not-is_marked, else-not-is_marked}
use Rattle.sw_graph.proofs.rounds.drop_done.Goals as goal

pub loop-at-preserved : goal.loop-at-preserved
loop-at-preserved c =
    let test : ℕ → Bool = λ k. not (is_marked c.args.done.now k) in
    let xs = c.args.left.now.items in
    let now = c.loop-at.left.items in
    let at = c.loop-at.at in
    let inside : at < length now = let long = c.loop-at.invariant.long in omega arith in
    let is = c.index-c.ensures ∙ get_or_default now at c.index-c.result.now 0 inside in
    elim c.if-not-is_marked.branch [
      | then-not-is_marked w ↦ rw (w.left-is, w.kept-is) (moved test xs at c.loop-at.kept now c.loop-at.invariant inside c.index-c.result.now is (ap not (sym c.is_marked.ensures ∙ w.if-not-is_marked.true)))
      | else-not-is_marked w ↦ rw (w.left-is, w.kept-is) (passed test xs at c.loop-at.kept now c.loop-at.invariant inside c.index-c.result.now is (ap not (sym c.is_marked.ensures ∙ w.if-not-is_marked.false)))
    ]
