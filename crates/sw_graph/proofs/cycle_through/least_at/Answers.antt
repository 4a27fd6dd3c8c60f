use Rattle.std.proofs.Common.{◌≡◌, ℕ, Some, take, get_or, sym, ◌∙◌}
use Rattle.std.proofs.lemmas.Bool.{false≢true}
use Rattle.std.proofs.lemmas.List.{take_more}
use Rattle.sw_graph.specs.Searches.{steps_to}
use Rattle.sw_graph.proofs.Leasts.{least_kept, least_more, least_none}
use Rattle.sw_graph.proofs.cycle_through.least_at.Goals.{then-is_at, else-is_at}
use Rattle.sw_graph.proofs.cycle_through.least_at.Goals as goal

pub loop-d-init : goal.loop-d-init
loop-d-init c = least_none (λ d. steps_to c.args.steps.now d ≡ Some c.args.count)

pub loop-d-preserved : goal.loop-d-preserved
loop-d-preserved c =
    let P : ℕ → Type 0 = λ d. steps_to c.args.steps.now d ≡ Some c.args.count in
    let xs = c.args.ds.now in
    let i = c.loop-d.d-index in
    let e = get_or xs i 0 in
    let more = take_more xs i 0 c.loop-d-test.true in
    elim c.if-is_at.branch [
      | then-is_at w ↦ rw (w.least-is, w.lesser_of.ensures, more) (least_more P (take i xs) e c.loop-d.least c.loop-d.invariant (c.is_at.ensures.0 w.if-is_at.true))
      | else-is_at w ↦ rw (w.least-is, more) (least_kept P (take i xs) e c.loop-d.least c.loop-d.invariant (λ p. false≢true (sym w.if-is_at.false ∙ c.is_at.ensures.1 p)))
    ]
