use Rattle.std.proofs.Common.{true, false, ◌∙◌, Global, Vec, ℕ, ap, append-nil, sym}
use Rattle.sw_json_verdicts.proofs.Chosen.{one_marked}
use Rattle.sw_json_verdicts.proofs.audit_answer.numbers_without_flows.Goals.{then-judged+in_ok-push, else-judged}
use Rattle.sw_json_verdicts.proofs.audit_answer.numbers_without_flows.Goals as goal

pub loop-place-preserved : goal.loop-place-preserved
loop-place-preserved c =
    let all = c.args.all.now in
    let place = c.loop-place.place in
    let before = c.loop-place.numbers.items in
    elim c.if-judged.branch [
      | then-judged+in_ok-push w ↦ ap (λ (v : Vec ℕ Global). v.items) w.numbers-is ∙ w.in_ok-push.ensures.items
          ∙ one_marked all place c.index-all-place.result true before c.loop-place-test.true c.index-all-place.is w.if-judged.true c.loop-place.invariant
      | else-judged w ↦ ap (λ (v : Vec ℕ Global). v.items) w.numbers-is ∙ sym (append-nil before)
          ∙ one_marked all place c.index-all-place.result false before c.loop-place-test.true c.index-all-place.is w.if-judged.false c.loop-place.invariant
    ]
