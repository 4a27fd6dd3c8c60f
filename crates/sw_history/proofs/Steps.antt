-- What a call answers where a step is possible.
use mathlib.Core.Logic.{∥∥₁_elim}
use Rattle.std.proofs.Common.{List, None, Ok, Option, Some, arith, length, subst, true, ℕ, ◌*◌, ◌<◌, ◌≡◌}
use Rattle.std.specs.Prelude.{Err, IfSome, Result}
use Rattle.std.specs.declared.alloc.AllocError.{AllocError}
use Rattle.sw_net.specs.NetFault.{NetFault}
use Rattle.sw_net.specs.NetFault.TheVariants.{NotEnabled, NotInFlow}
use Rattle.sw_char.specs.declared.nchar.End.{End}
use Rattle.sw_history.specs.Way.{HasMoved}
use Rattle.sw_machine.specs.Steps.{Begin}
use Rattle.sw_machine.specs.StepValues.{machine_step}
use Rattle.sw_net.proofs.Delivered.{channel_count}
use Rattle.sw_net.specs.Asked.{CanStep, IsFirst}
use Rattle.sw_net.specs.Making.{MovesAt}
use Rattle.sw_net.specs.Net.{IsNet, NetAnswers, NetView}
use Rattle.sw_net.specs.Possible.{Tells}
use Rattle.sw_net.specs.Unanswered.{Counts, HasCounted, HasCountedMove}
use Rattle.sw_route.specs.declared.look.Look.{Look}
use Rattle.sw_machine.specs.declared.step.Step.{Step as CodeStep}

none_is : (x y : ⊥) → x ≡ y
none_is x y = absurd x

module _ {R A : Type 0} (answer : R → ℕ → Look) (arbiter_ports : A → ℕ) (policy : A → ℕ → ℕ → A → Type 0) (v : NetView R A) (is : IsNet answer arbiter_ports v) where
  module _ (f : ℕ) (cargo : List ℕ) (end : End) (possible : Tells v (Begin f cargo end) true) (r : Result Unit NetFault) (w : NetView R A) (h : NetAnswers v (Begin f cargo end) r w) where
    pub not_undeclared : r ≡ Err NotInFlow → ⊥
    not_undeclared e = let none = subst (λ k. NetAnswers v (Begin f cargo end) k w) e h in ∥∥₁_elim is.reached none_is (λ k. let p = possible k.0 k.1 in none p.1.declared)

    pub not_refused : r ≡ Err NotEnabled → ⊥
    not_refused e = let never = subst (λ k. NetAnswers v (Begin f cargo end) k w) e h in ∥∥₁_elim is.reached none_is (λ k. never.1 k.0 k.1 (possible k.0 k.1))

  -- a link end that can step does
  pub not_idle : (e : ℕ) → CanStep v e true → (r : Result (Option CodeStep) AllocError) (w : NetView R A) → MovesAt answer policy v e r w → r ≡ Ok None → ⊥
  not_idle e can r w h nothing = let never = (subst (λ k. MovesAt answer policy v e k w) nothing h).0 in ∥∥₁_elim is.reached none_is (λ k. never k.0 k.1 (can k.0 k.1))

-- a step that was made and counted
pub has_moved : {R A : Type 0} (answer : R → ℕ → Look) (policy : A → ℕ → ℕ → A → Type 0) (v w : NetView R A) (counts after : Counts) (e : ℕ) (r : Result (Option CodeStep) AllocError) (step : CodeStep) → MovesAt answer policy v e r w → HasCountedMove v counts r w after → r ≡ Ok (Some step)
    → (moved : HasMoved v e w) × HasCounted v counts moved.step w after
has_moved answer policy v w counts after e r step h counted is =
    let moves = subst (λ k. MovesAt answer policy v e k w) is h in
    (record { step = machine_step step; belongs = moves.move.belongs; no_begin = moves.move.no_begin; made = moves.made }, subst (λ k. HasCountedMove v counts k w after) is counted)

pub first_within : {R A : Type 0} (v : NetView R A) (o : Option ℕ) → IsFirst v o → IfSome o (λ e. e < 2 * length v.declared.links)
first_within v None h = tt
first_within v (Some e) h = let all = channel_count v.declared in let lt = h.0 in omega arith
