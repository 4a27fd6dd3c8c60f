-- What a network's cells tell.
use Rattle.std.proofs.Common.{Bool, IsTrue, arith, false, true, ℕ, ◌<◌, ◌↔◌, ◌≡◌}
use Rattle.sw_net.specs.Asked.{IsQuietNet}
use Rattle.sw_net.specs.Delivery.{IsUndelivered}
use Rattle.sw_net.specs.Net.{NetView}
use Rattle.sw_schedule.specs.Nets.{TellsLockedUp}

-- where no step other than a beginning is possible
pub locked : {R A : Type 0} (v : NetView R A) (told : Bool) (remaining : ℕ) → (IsTrue told ↔ (0 < remaining)) → IsUndelivered v remaining → IsQuietNet v true → TellsLockedUp v told
locked v told remaining some counted none = λ s at.
    let count = counted s at in
    (λ yes_told. let holds = some.0 yes_told in record { quiet = none s at; holds = omega arith }, λ stuck. let holds = stuck.holds in some.1 (omega arith))

-- where one is
pub loose : {R A : Type 0} (v : NetView R A) (quiet : Bool) → quiet ≡ false → IsQuietNet v quiet → TellsLockedUp v quiet
loose v true is goes = absurd cc
loose v false is goes = λ s at. (λ told. absurd cc, λ stuck. let on = goes s at in absurd (stuck.quiet on.step on.no_begin on.possible))
