-- How a network that sends a load goes on, turn by turn.
use Rattle.std.specs.Prelude.{List, [], suc, true, zero, ℕ, ◌++◌, ◌∷◌, ◌≡◌, ◌⊎◌}
use Rattle.sw_history.specs.Way.{HasBegunNext, MovesPicked, NoneMayBegin}
use Rattle.sw_load.specs.Load.{LoadEntry}
use Rattle.sw_machine.specs.Steps.{Step}
use Rattle.sw_net.specs.Net.{NetView}

-- the link end that pick chooses makes a step behind these
abbrev pub HasMovedOn : {R A F : Type 0} → (F → ℕ → ℕ → F → Type 0) → NetView R A → List Step → F → NetView R A → List Step → F → Type 0
HasMovedOn step v steps f w after g = (picked : MovesPicked step v f true w g) × (after ≡ steps ++ ((picked.moved).2).step ∷ [])

-- a node begins its next packet, and pick is not asked; or none may, and the link end that pick chooses makes a step
abbrev pub IsTurn : {R A F : Type 0} → List LoadEntry → (F → ℕ → ℕ → F → Type 0) → NetView R A → List Step → F → NetView R A → List Step → F → Type 0
IsTurn load step v steps f w after g = (HasBegunNext load v steps w after × (g ≡ f)) ⊎ (NoneMayBegin load v steps × HasMovedOn step v steps f w after g)

-- so many turns, one after another, lead from the first, before any step, to the second, after these steps
abbrev pub AreTurns : {R A F : Type 0} → List LoadEntry → (F → ℕ → ℕ → F → Type 0) → NetView R A → F → ℕ → NetView R A → List Step → F → Type 0
AreTurns load step v f zero w steps g = (w ≡ v) × (steps ≡ []) × (g ≡ f)
AreTurns {R} {A} {F} load step v f (suc n) w steps g = (u : NetView R A) × (before : List Step) × (h : F) × AreTurns load step v f n u before h × IsTurn load step u before h w steps g

-- a number of turns leads from the first to the second
abbrev pub TurnsLead : {R A F : Type 0} → List LoadEntry → (F → ℕ → ℕ → F → Type 0) → NetView R A → F → NetView R A → List Step → F → Type 0
TurnsLead load step v f w steps g = (count : ℕ) × AreTurns load step v f count w steps g
