-- A step that was picked, and what is counted behind it.
use Rattle.std.proofs.Common.{Bool, Err, Ok, Result, length, refl, subst, suc, sym, zero, ℕ, ◌*◌, ◌≡◌}
use Rattle.std.specs.Prelude.{IfOk}
use Rattle.sw_history.specs.Enabled.{CanStepBelow}
use Rattle.sw_history.specs.Way.{Asks, CountsMove, MovesOne, MovesPicked}
use Rattle.sw_net.specs.Net.{NetView}
use Rattle.sw_net.specs.Unanswered.{Counts}

module _ {F : Type 0} (step : F → ℕ → ℕ → F → Type 0) (f g : F) where
  pub none_asked : (count index : ℕ) → count ≡ 0 → g ≡ f → Asks step f count index g
  none_asked count index none same = subst (λ n. Asks step f n index g) (sym none) same

  pub some_asked : (count index : ℕ) → (count ≡ 0 → ⊥) → step f count index g → Asks step f count index g
  some_asked zero index some asks = absurd (some refl)
  some_asked (suc n) index some asks = asks

  pub picked : {R A E : Type 0} (v w : NetView R A) (counts after : Counts) (count index : ℕ) → CanStepBelow v (2 * length v.declared.links) count → Asks step f count index g
      → (r : Result Bool E) → IfOk r (λ made. (m : MovesOne v index made w) × CountsMove v counts index made w after m) → IfOk r (λ made. (p : MovesPicked step v f made w g) × CountsMove v counts p.index made w after p.moved)
  picked v w counts after count index counted asked (Ok made) told = (record { count = count; counted = counted; index = index; asked = asked; moved = told.0 }, told.1)
  picked v w counts after count index counted asked (Err e) told = tt
