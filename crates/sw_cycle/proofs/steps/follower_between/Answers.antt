use Rattle.std.proofs.Common.{ℕ, ◌+◌, ◌<◌, ◌≤◌, subst, sym, arith}
use Rattle.std.proofs.lemmas.Bool.{false≢true}
use Rattle.sw_flow.specs.Places.{Follows}
use Rattle.sw_cycle.proofs.Stepped.{no_other}
use Rattle.sw_cycle.proofs.steps.follower_between.Goals as goal

one_more_fits : (k n : ℕ) → k < n → n ≤ 32 → k + 1 < 256
one_more_fits k n lt few = omega arith

pub returns-else-follows-2-clause-none : goal.returns-else-follows-2-clause-none
returns-else-follows-2-clause-none c = λ at m s.
    let d = c.args.network.now in
    let f = c.args.flow.now in
    let p = c.args.place in
    no_other d f p.channel p.deleted c.args.to (λ t. false≢true (c.if-follows.ensures.1 t)) (λ t. false≢true (c.if-follows-2.ensures.1 (subst (λ (n : ℕ). Follows d f p.channel p.deleted c.args.to n) (sym c.in_ok-checked_add.ensures.1) t))) m s

pub returns-in_err-checked_add-clause-none : goal.returns-in_err-checked_add-clause-none
returns-in_err-checked_add-clause-none c = rw c.from_residual.ensures (λ at m s. c.in_err-checked_add.ensures (one_more_fits c.args.place.deleted _ s.bytes_left c.requires))
