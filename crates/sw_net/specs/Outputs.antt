-- The arbiters of the outputs of switches, as a list in the order of channels, and by switch and port.
use Rattle.std.specs.Prelude.{List, Option, Some, [], slice_get, ℕ, ◌∷◌, ◌≡◌}
use Rattle.sw_topo.specs.declared.place.PlaceEnd.{PlaceEnd}
use Rattle.sw_topo.specs.declared.place.PlaceEnd.TheVariants as place

-- there is one for each of these channels that starts at a switch, in their order, and each is what it has to be for its switch and port
abbrev pub AreByOutput : {A : Type 0} → (ℕ → ℕ → A → Type 0) → List PlaceEnd → List A → Type 0
AreByOutput Is [] [] = Unit {0}
AreByOutput Is [] (a ∷ more) = ⊥
AreByOutput Is (place.Node n ∷ ends) arbiters = AreByOutput Is ends arbiters
AreByOutput Is (place.Switch w port ∷ ends) [] = ⊥
AreByOutput Is (place.Switch w port ∷ ends) (a ∷ more) = Is w port a × AreByOutput Is ends more

-- of arbiters that are kept by switch and by port, this is the one of the output at that port of switch w
abbrev pub StandsAt : {A : Type 0} → List (List (Option A)) → ℕ → ℕ → A → Type 0
StandsAt {A} arbiters w port a = (row : List (Option A)) × (slice_get arbiters w ≡ Some row) × (slice_get row port ≡ Some (Some a))
