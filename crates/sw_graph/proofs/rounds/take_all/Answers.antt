use Rattle.std.proofs.Common.{◌<◌, ◌∙◌, ℕ, length, take, get_or, sym, subst}
use Rattle.std.proofs.lemmas.List.{take_all, take_more}
use Rattle.std.proofs.lemmas.List.Elements.{All-get_or}
use Rattle.sw_graph.proofs.RelationSteps.{taken_more}
use Rattle.sw_graph.proofs.rounds.take_all.Goals as goal

pub loop-c-preserved : goal.loop-c-preserved
loop-c-preserved c =
    let xs = c.args.members.now in
    let i = c.loop-c.c-index in
    let e = get_or xs i 0 in
    let lt : e < length c.args.done.now = All-get_or (λ d. d < length c.args.done.now) xs i 0 c.loop-c-test.true c.requires.inside in
    let inside : e < length c.loop-c.levels = subst (λ (n : ℕ). e < n) (sym (c.loop-c.auto.levels ∙ c.requires.size)) lt in
    let marked : e < length c.loop-c.done = subst (λ (n : ℕ). e < n) (sym c.loop-c.auto.done) lt in
    rw (c.from.ensures, c.from-in-loop-c.ensures, take_more xs i 0 c.loop-c-test.true) (taken_more c.args.round e (take i xs) c.args.levels.now c.loop-c.levels c.args.done.now c.loop-c.done c.loop-c.invariant inside marked)

pub returns : goal.returns
returns c = rw (take_all c.loop-c.c-index c.args.members.now c.loop-c-test.false) at c.loop-c.invariant
