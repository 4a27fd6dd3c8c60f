use Rattle.std.proofs.Common.{◌≡◌, ◌-◌, ℕ, Some, Option, subst, arith}
use Rattle.sw_graph.specs.Rows.{Leads, row}
use Rattle.sw_graph.specs.Searches.{IsLeastOf, steps_to}
use Rattle.sw_graph.proofs.Going.{going_first, going_more, gone, some_on}
use Rattle.sw_graph.proofs.Sought.{fewest_inside, least_some}
use Rattle.sw_graph.proofs.cycle_through.way_round.Goals as goal

pub loop-done-init : goal.loop-done-init
loop-done-init c = rw c.new-way.ensures.items (going_first (Leads c.args.successors.now) c.args.start c.args.count c.requires.fewest)

pub row_of-requires : goal.row_of-requires
row_of-requires c = fewest_inside c.args.successors.now c.loop-done.now c.args.start (c.args.count - c.loop-done.done) c.loop-done.invariant.fewest

pub unwrap-now-requires : goal.unwrap-now-requires
unwrap-now-requires c =
    let dep = Leads c.args.successors.now in
    let j = c.args.count - c.loop-done.done in
    let P : ℕ → Type 0 = λ d. steps_to c.args.steps.now d ≡ Some j in
    let going = c.loop-done.invariant in
    let r = some_on dep c.args.start c.args.count c.args.steps.now c.requires.known c.loop-done.now j (omega (arith, going.size, going.low)) going.fewest in
    least_some (row c.args.successors.now c.loop-done.now) P c.least_at.result r.0 (rw c.row_of.ensures at c.least_at.ensures) r.1 r.2

pub loop-done-preserved : goal.loop-done-preserved
loop-done-preserved c =
    let dep = Leads c.args.successors.now in
    let j = c.args.count - c.loop-done.done in
    let P : ℕ → Type 0 = λ d. steps_to c.args.steps.now d ≡ Some j in
    let Q : Option ℕ → Type 0 = IsLeastOf (row c.args.successors.now c.loop-done.now) P in
    let least = subst Q c.unwrap-now.ensures (rw c.row_of.ensures at c.least_at.ensures) in
    rw c.in_ok-push.ensures.items (going_more dep c.args.start c.args.count c.loop-done.done c.loop-done.way.items c.loop-done.now c.unwrap-now.result c.args.steps.now c.requires.known (omega arith) c.loop-done.invariant least)

pub returns : goal.returns
returns c = rw c.in_ok-push-2.ensures.items (gone (Leads c.args.successors.now) c.args.start c.args.count c.loop-done.done c.loop-done.way.items c.loop-done.now (omega (arith, c.loop-done-test.false)) c.loop-done.invariant)
