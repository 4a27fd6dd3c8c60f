use Rattle.std.proofs.Common.{◌≡◌, ℕ, List, sym, ap, ◌∙◌, subst, arith}
use Rattle.std.specs.List.{filter}
use Rattle.sw_graph.specs.Reached.{IsListing, Reached}
use Rattle.sw_graph.specs.Rows.{row}
use Rattle.sw_graph.specs.Walks.{holds}
use Rattle.sw_graph.proofs.Cycles.{on_ok_of}
use Rattle.sw_graph.proofs.Sought.{both_listing}
use Rattle.sw_graph.proofs.together.together.Goals as goal

pub in_both-requires-clause-small : goal.in_both-requires-clause-small
in_both-requires-clause-small c = rw c.deref.ensures.value (λ k d lt. let a = c.in_ok-ahead.ensures.below k d lt in let b = c.requires.few in omega arith)

pub returns : goal.returns
returns c =
    let P = Reached (row c.args.successors.now) c.args.c in
    let Q = Reached (row c.args.predecessors.now) c.args.c in
    let R : List ℕ → Type 0 = IsListing (λ d. P d × Q d) in
    let both = both_listing P Q c.in_ok-ahead.ahead.items c.in_ok-back.back.items c.in_ok-ahead.ensures.listing c.in_ok-back.ensures.listing in
    let e = ap (λ (l : List ℕ). filter (holds l) c.deref.result.now) c.deref-2.ensures.value ∙ ap (filter (holds c.in_ok-back.back.items)) c.deref.ensures.value in
    on_ok_of (λ v. v.items ≡ filter (holds c.deref-2.result.now) c.deref.result.now) (λ v. R v.items) c.in_both.result (λ v same. subst R (sym (same ∙ e)) both) c.in_both.ensures
