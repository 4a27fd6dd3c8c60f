-- Which link ends can step, counted in the order of their numbers.
use Rattle.std.specs.Prelude.{Bool, List, None, Option, Some, count_by, length, slice_get, true, ℕ, ◌*◌, ◌≡◌, ◌≤◌, ◌⊎◌}
use Rattle.sw_net.specs.Asked.{CanStep}
use Rattle.sw_net.specs.Net.{NetView}

-- told says of the first n link ends, one after another, whether they can step
pub record AreTold {R A : Type 0} (v : NetView R A) (n : ℕ) (told : List Bool) : Type 0 where
  pub all : length told ≡ n
  pub each : (e : ℕ) (can : Bool) → slice_get told e ≡ Some can → CanStep v e can

-- so many of the first n link ends can step
pub record CanStepBelow {R A : Type 0} (v : NetView R A) (n count : ℕ) : Type 0 where
  pub told : List Bool
  pub are_told : AreTold v n told
  pub counted : count ≡ count_by (λ can. can) told

-- no more of all link ends can step
abbrev pub HasNoMore : {R A : Type 0} → NetView R A → ℕ → Type 0
HasNoMore v index = (count : ℕ) × CanStepBelow v (2 * length v.declared.links) count × (count ≤ index)

-- Some: this link end can step, and so many before it can; None: no more can
abbrev pub IsNth : {R A : Type 0} → NetView R A → ℕ → Option ℕ → Type 0
IsNth v index None = HasNoMore v index
IsNth v index (Some e) = CanStep v e true × CanStepBelow v e index

-- the link end that can step and has so many before it that can; where no more can, the first that can
abbrev pub IsChosen : {R A : Type 0} → NetView R A → ℕ → ℕ → Type 0
IsChosen v index e = CanStep v e true × (CanStepBelow v e index ⊎ (HasNoMore v index × CanStepBelow v e 0))
