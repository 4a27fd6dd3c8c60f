-- A port that asks each time is passed over at most as often as it has ports ahead of it.
use Rattle.std.specs.Prelude.{IsBitSet}
use Rattle.std.proofs.Common.{◌≢◌, ℕ, suc, ◌<◌, ◌≤◌, List, [], arith, inl, inr, eq-eqb, ne_eqb}
use Rattle.std.proofs.lemmas.Bool.{cases_eq}
use Rattle.sw_arb.specs.Arbiters.{IsWithin, Pick, MakesPicks, none, next, AsksEachTime, passed_over}

pub passed_over_ahead : {A : Type 0} (ports : A → ℕ) (policy : A → ℕ → ℕ → A → Type 0) (ahead_of : A → ℕ → ℕ) →
    ((a b : A) (asking pick port : ℕ) → policy a asking pick b → IsWithin asking (ports a) → port < 32 → IsBitSet asking port → pick ≢ port → ahead_of b port < ahead_of a port) →
    (a b : A) (picks : List Pick) (port : ℕ) → MakesPicks ports policy a picks b → port < 32 → AsksEachTime port picks → passed_over port picks ≤ ahead_of a port
passed_over_ahead ports policy ahead_of falls _ _ [] port (none a) is_port asks = omega arith
passed_over_ahead ports policy ahead_of falls _ _ _ port (next a b c pick picks within picked more) is_port asks =
    let here : IsBitSet pick.asking port = asks 0 pick (omega arith) in
    let later : AsksEachTime port picks = λ k d lt. asks (suc k) d (omega arith) in
    elim (cases_eq pick.picked port) [
      | inl same ↦ rw (eq-eqb pick.picked port same) (omega arith)
      | inr other ↦
          rw (ne_eqb pick.picked port other)
          (omega (arith, falls a b pick.asking pick.picked port picked within is_port here other, passed_over_ahead ports policy ahead_of falls b c picks port more is_port later))
    ]
