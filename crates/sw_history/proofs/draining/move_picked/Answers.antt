use Rattle.std.proofs.Common.{subst, sym}
use Rattle.sw_history.proofs.Picked.{none_asked, picked, some_asked}
use Rattle.sw_history.proofs.draining.move_picked.Goals as goal
use Rattle.sw_history.proofs.draining.move_picked.Goals.{then-count-eq0, else-count-eq0}

pub returns-clause-moves : goal.returns-clause-moves
returns-clause-moves g c =
    picked (goal.F-step g) c.args.pick.now c.if-count-eq0.pick c.args.net.now c.move_one.new.net c.args.unanswered.now c.move_one.new.unanswered c.count_enabled-count.result c.if-count-eq0.index c.count_enabled-count.ensures
    (elim c.if-count-eq0.branch [
      | then-count-eq0 w ↦ none_asked (goal.F-step g) c.args.pick.now c.if-count-eq0.pick c.count_enabled-count.result c.if-count-eq0.index w.if-count-eq0.true w.pick-is
      | else-count-eq0 w ↦
          some_asked (goal.F-step g) c.args.pick.now c.if-count-eq0.pick c.count_enabled-count.result c.if-count-eq0.index w.if-count-eq0.false
          (subst (goal.F-step g c.args.pick.now c.count_enabled-count.result c.if-count-eq0.index) (sym w.pick-is)
          (subst (λ i. goal.F-step g c.args.pick.now c.count_enabled-count.result i w.pick-index.new.self) (sym w.index-is) w.pick-index.ensures))
    ])
    c.move_one.result c.move_one.ensures.moves
