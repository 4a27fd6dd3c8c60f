use Rattle.std.proofs.Common.{◌∷◌, [], ◌++◌, ℕ, Bool, List, filter, get_or, ap, sym, ◌∙◌}
use Rattle.std.proofs.lemmas.List.{take_all}
use Rattle.sw_graph.specs.Walks.{holds}
use Rattle.sw_graph.proofs.Loops.{filter_kept, filter_left}
use Rattle.sw_graph.proofs.Sought.{among}
use Rattle.sw_graph.proofs.together.in_both.Goals.{then-is_ok+in_ok-push, else-is_ok}
use Rattle.sw_graph.proofs.together.in_both.Goals as goal

pub loop-c-preserved : goal.loop-c-preserved
loop-c-preserved c =
    let xs = c.args.numbers.now in
    let i = c.loop-c.c-index in
    let e = get_or xs i 0 in
    let test : ℕ → Bool = holds c.args.others.now in
    let told = c.is_ok.ensures.value ∙ among c.args.others.now e c.binary_search.result c.requires.rising c.binary_search.ensures.position in
    elim c.if-is_ok.branch [
      | then-is_ok+in_ok-push w ↦ ap (λ v. v.items) w.members-is ∙ w.in_ok-push.ensures.items ∙ ap (λ (l : List ℕ). l ++ e ∷ []) c.loop-c.invariant ∙ sym (filter_kept test xs i c.loop-c-test.true (sym told ∙ w.if-is_ok.true))
      | else-is_ok w ↦ ap (λ v. v.items) w.members-is ∙ c.loop-c.invariant ∙ sym (filter_left test xs i c.loop-c-test.true (sym told ∙ w.if-is_ok.false))
    ]

pub returns : goal.returns
returns c = c.loop-c.invariant ∙ ap (filter (holds c.args.others.now)) (take_all c.loop-c.c-index c.args.numbers.now c.loop-c-test.false)
