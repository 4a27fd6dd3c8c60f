use Rattle.std.proofs.Common.{◌≡◌, true, List, ℕ, take, get_or, refl, sym, subst, ◌∙◌}
use Rattle.std.proofs.lemmas.List.{take_all, take_more}
use Rattle.std.proofs.lemmas.List.Elements.{All-push}
use Rattle.sw_graph.specs.Rounds.{AllDone, is_marked}
use Rattle.sw_graph.proofs.round_workers.all_done.Goals as goal

pub loop-c-preserved : goal.loop-c-preserved
loop-c-preserved c =
    let xs = c.args.members.now in
    let i = c.loop-c.c-index in
    rw (take_more xs i 0 c.loop-c-test.true) (All-push (λ k. is_marked c.args.done.now k ≡ true) (take i xs) (get_or xs i 0) c.loop-c.invariant (sym c.is_marked.ensures ∙ c.if-not-is_marked.false))

pub returns : goal.returns
returns c = (λ told. subst (λ (l : List ℕ). AllDone c.args.done.now l) (take_all c.loop-c.c-index c.args.members.now c.loop-c-test.false) c.loop-c.invariant, λ all. refl)
