use Rattle.std.proofs.Common.{ℕ, zero, suc, ◌<◌, List, [], ◌∷◌, ◌++◌, length, length-append, arith}
use Rattle.std.specs.Prelude.{slice_get, Option, Some}
use Rattle.sw_switch.specs.Cell.{HasArbiter}
use Rattle.test_runs.proofs.parts.switches.arbiters.Goals as goal

-- one more entry
each_push : {X : Type 0} (P : Option X → Type 0) (xs : List X) (x : X) → ((i : ℕ) → i < length xs → P (slice_get xs i)) → P (Some x) → (i : ℕ) → i < length (xs ++ x ∷ []) → P (slice_get (xs ++ x ∷ []) i)
each_push P [] x each last zero lt = last
each_push P [] x each last (suc i) lt = absurd (omega arith)
each_push P (y ∷ ys) x each last zero lt = each zero (omega arith)
each_push P (y ∷ ys) x each last (suc i) lt = each_push P ys x (λ j below. each (suc j) (omega arith)) last i (omega arith)

pub loop-preserved : goal.loop-preserved
loop-preserved c = record {
  many = omega (arith, c.in_ok-push.ensures.len);
  whole = rw c.in_ok-push.ensures.items (simp length-append (omega arith));
  each = rw c.in_ok-push.ensures.items (each_push (HasArbiter (λ arbiter. arbiter.ports) c.args.ports) c.loop.all.items (Some c.new.result) c.loop.invariant.each c.new.ensures.ports);
}
