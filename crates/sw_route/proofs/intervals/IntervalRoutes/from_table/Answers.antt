use Rattle.std.proofs.Common.{◌≡◌, ℕ, subst, rules, find, sym, ◌∙◌, arith}
use Rattle.sw_route.specs.Looks.{look_of, covers, route_look}
use Rattle.sw_route.proofs.IntervalSteps.{IsRun, run_kept, run_pushed, here_intervals, finished}
use Rattle.sw_route.proofs.intervals.IntervalRoutes.from_table.Goals as goal
use Rattle.sw_route.proofs.intervals.IntervalRoutes.from_table.Goals.{then-ne+in_ok-push, else-ne}

pub loop-address-preserved : goal.loop-address-preserved
loop-address-preserved c =
    let b = c.loop-address.address in
    let look = c.loop-address.look in
    let is = c.loop-address.intervals.items in
    elim c.if-ne.branch [
      | then-ne+in_ok-push w ↦ rw (w.intervals-is, w.look-is, w.in_ok-push.ensures.items, c.look_near-next.ensures) (run_pushed (look_of c.args.table.now) b look is c.loop-address.invariant (omega arith) (λ e. let same : c.look_near-next.result.0 ≡ look = c.look_near-next.ensures ∙ sym e in search rules))
      | else-ne w ↦
          let same : c.look_near-next.result.0 ≡ look = search rules in
          rw (w.intervals-is, w.look-is) (run_kept (look_of c.args.table.now) b look is c.loop-address.invariant (sym c.look_near-next.ensures ∙ same))
    ]

pub invariant_of-result : goal.invariant_of-result
invariant_of-result c =
    let look = c.loop-address.look in
    let is = c.loop-address.intervals.items in
    let end : c.loop-address.address ≡ 255 = omega arith in
    rw c.in_ok-push-2.ensures.items (here_intervals (look_of c.args.table.now) 255 look is (subst (λ (b : ℕ). IsRun (look_of c.args.table.now) b look is) end c.loop-address.invariant) (omega arith))

pub returns-clause-same : goal.returns-clause-same
returns-clause-same c =
    let look = c.loop-address.look in
    let is = c.loop-address.intervals.items in
    let end : c.loop-address.address ≡ 255 = omega arith in
    rw c.in_ok-push-2.ensures.items (finished (λ address. route_look (find (covers address) c.args.table.now)) look is (subst (λ (b : ℕ). IsRun (look_of c.args.table.now) b look is) end c.loop-address.invariant))

pub returns-clause-intervals : goal.returns-clause-intervals
returns-clause-intervals c = invariant_of-result c
