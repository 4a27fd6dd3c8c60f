-- Laws of what is found, and of the answers.
use Rattle.std.specs.Prelude.{◌≡◌, Bool, ℕ, List}
use Rattle.std.specs.Option.{option_map}
use Rattle.sw_config.specs.Entries.{Declaration}
use Rattle.sw_changes.specs.declared.mending.Cures.{Cures}
use Rattle.sw_changes.specs.declared.mending.Mending.{Mending}
use Rattle.sw_changes.specs.declared.mending.Mending.TheVariants.{Misrouted, Free, Cyclic}
use Rattle.sw_changes.specs.MendAnswers.{IsMendAnswer}
use Rattle.sw_changes.specs.Mendings.{IsMending}

-- the same limits, changes and pairs
pub record AreSameCures (cures others : Cures) : Type 0 where
  pub limiting : cures.limiting ≡ others.limiting
  pub changes : cures.changes.items ≡ others.changes.items
  pub units : cures.units.items ≡ others.units.items
  pub pairs : option_map (λ told. told.items) cures.pairs ≡ option_map (λ told. told.items) others.pairs

-- the same is found: of one kind, with the same flow, place and fault, or with the same changes
abbrev pub IsSameMending : Mending → Mending → Type 0
IsSameMending (Misrouted i p fault) (Misrouted j q other) = (i ≡ j) × (p ≡ q) × (fault ≡ other)
IsSameMending (Misrouted i p fault) m = ⊥
IsSameMending Free Free = Unit {0}
IsSameMending Free m = ⊥
IsSameMending (Cyclic cures) (Cyclic others) = AreSameCures cures others
IsSameMending (Cyclic cures) m = ⊥

-- a network has one mending, with pairs asked for or not
abbrev pub MendingsAreDetermined : Type 0
MendingsAreDetermined = (pairs : Bool) (d : Declaration) (m n : Mending) → IsMending pairs d m → IsMending pairs d n → IsSameMending m n

-- `mend` has one answer for each file, with `--pairs` and without
abbrev pub MendHasOneAnswer : Type 0
MendHasOneAnswer =
    (pairs : Bool) (bytes text other : List ℕ) (status number : ℕ)
    → IsMendAnswer pairs bytes text status → IsMendAnswer pairs bytes other number → (text ≡ other) × (status ≡ number)
