use Rattle.std.proofs.Common.{◌≡◌, ◌∙◌, ◌++◌, ◌∷◌, [], ◌↔◌, ◌≤◌, IsTrue, true, false, List, ℕ, get_or, take, length, ap, sym, subst, rules, arith}
use Rattle.std.proofs.lemmas.Bool.{false≢true}
use Rattle.std.proofs.lemmas.List.{take_all, take_more}
use Rattle.sw_graph.specs.Rounds.{AllDone, AreFree}
use Rattle.sw_graph.specs.Rows.{row}
use Rattle.sw_graph.proofs.RelationSteps.{free_kept, free_passed}
use Rattle.sw_graph.proofs.round_workers.OneByOneRoundWorkers.free_members.Goals as goal
use Rattle.sw_graph.proofs.round_workers.OneByOneRoundWorkers.free_members.Goals.{then-all_done+in_ok-push, else-all_done}

pub loop-member-preserved : goal.loop-member-preserved
loop-member-preserved c =
    let g = c.args.predecessors.now in
    let done = c.args.done.now in
    let left = c.args.left.now in
    let k = c.loop-member.member-index in
    let old = c.loop-member.free.items in
    let x = get_or left k 0 in
    let exact : IsTrue c.all_done.result ↔ AllDone done (row g x) = rw c.row_of.ensures at c.all_done.ensures in
    elim c.if-all_done.branch [
      | then-all_done+in_ok-push w ↦
          let is : c.all_done.result ≡ true = search rules in
          let items : c.if-all_done.free.items ≡ old ++ x ∷ [] = ap (λ v. v.items) w.free-is ∙ w.in_ok-push.ensures.items in
          rw (items, take_more left k 0 c.loop-member-test.true) (free_kept g done (take k left) old x c.loop-member.invariant (exact.0 is))
      | else-all_done w ↦
          let is : c.all_done.result ≡ false = search rules in
          let items : c.if-all_done.free.items ≡ old = ap (λ v. v.items) w.free-is in
          rw (items, take_more left k 0 c.loop-member-test.true) (free_passed g done (take k left) old x c.loop-member.invariant (λ all. let bad : false ≡ true = sym is ∙ exact.1 all in false≢true bad))
    ]

pub returns : goal.returns
returns c =
    let left = c.args.left.now in
    let k = c.loop-member.member-index in
    let past : length left ≤ k = let more = c.loop-member-test.false in omega arith in
    subst (λ (l : List ℕ). AreFree c.args.predecessors.now c.args.done.now l c.loop-member.free.items) (take_all k left past) c.loop-member.invariant
