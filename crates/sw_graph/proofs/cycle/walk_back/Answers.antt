use Rattle.std.proofs.Common.{◌≡◌, ◌<◌, ℕ, get_or, length, set, sym, subst, ap, ◌∙◌, false, not, true, arith}
use Rattle.std.specs.Prelude.{count_by}
use Rattle.std.proofs.lemmas.List.{get_or_default}
use Rattle.sw_graph.specs.Rounds.{is_marked}
use Rattle.sw_graph.proofs.Backs.{walk_done, walk_falls, walk_more}
use Rattle.sw_graph.proofs.cycle.walk_back.Goals as goal

pub loop-seen-smaller : goal.loop-seen-smaller
loop-seen-smaller c =
    let w = c.loop-seen.invariant in
    let seen = c.loop-seen.seen.items in
    let now = c.loop-seen.now in
    let e = c.from.ensures in
    let within : c.from.result < length seen = subst (λ (k : ℕ). k < length seen) (sym e) (subst (λ (n : ℕ). now < n) (sym w.size) w.inside) in
    let fresh : is_marked seen now ≡ false = ap (λ k. get_or seen k false) (sym e) ∙ get_or_default seen c.from.result false c.index.result.now within ∙ sym c.index.ensures ∙ c.loop-seen-test.true in
    let falls = walk_falls c.args.predecessors.now c.args.done.now c.args.start seen c.loop-seen.path.items now w fresh in
    let fewer : count_by not (set seen now true) < count_by not seen = omega (arith, falls) in
    subst (λ (k : ℕ). count_by not (set seen k true) < count_by not seen) (sym c.from-in-loop-seen.ensures) fewer

pub loop-seen-preserved : goal.loop-seen-preserved
loop-seen-preserved c =
    let w = c.loop-seen.invariant in
    let seen = c.loop-seen.seen.items in
    let now = c.loop-seen.now in
    let e = c.from.ensures in
    let within : c.from.result < length seen = subst (λ (k : ℕ). k < length seen) (sym e) (subst (λ (n : ℕ). now < n) (sym w.size) w.inside) in
    let fresh : is_marked seen now ≡ false = ap (λ k. get_or seen k false) (sym e) ∙ get_or_default seen c.from.result false c.index.result.now within ∙ sym c.index.ensures ∙ c.loop-seen-test.true in
    rw (c.from-in-loop-seen.ensures, c.in_ok-push.ensures.items) (walk_more c.args.predecessors.now c.args.done.now c.args.start seen c.loop-seen.path.items now w c.least_before-now.result fresh c.requires.graph c.least_before-now.ensures)

pub returns : goal.returns
returns c =
    let w = c.loop-seen.invariant in
    let seen = c.loop-seen.seen.items in
    let now = c.loop-seen.now in
    let e = c.from.ensures in
    let within : c.from.result < length seen = subst (λ (k : ℕ). k < length seen) (sym e) (subst (λ (n : ℕ). now < n) (sym w.size) w.inside) in
    let old : is_marked seen now ≡ true = ap (λ k. get_or seen k false) (sym e) ∙ get_or_default seen c.from.result false c.index.result.now within ∙ sym c.index.ensures ∙ c.loop-seen-test.false in
    walk_done c.args.predecessors.now c.args.done.now c.args.start seen c.loop-seen.path.items now w old
