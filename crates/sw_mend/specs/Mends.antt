-- Which single changes make a network free, and which pairs of them.
use Rattle.std.specs.Prelude.{◌≡◌, ◌⊎◌, List, [], ◌∷◌, ◌++◌, map}
use Rattle.sw_config.specs.Entries.{Declaration}
use Rattle.sw_config.specs.Valid.{IsValid}
use Rattle.sw_search.specs.Laws.{RoutedAndFree}
use Rattle.sw_mend.specs.Changes.{changed, changed_by_all, pairs_of, parts_away, removals, units_away}
use Rattle.sw_mend.specs.Splits.{split, splits}
use Rattle.sw_mend.specs.declared.change.Change.{Change}
use Rattle.sw_mend.specs.declared.change.Pair.{Pair}
use Rattle.sw_mend.specs.declared.change.Trial.{Trial}
use Rattle.sw_mend.specs.declared.change.Trial.TheVariants.{Without, Split}

-- ---- the single changes

-- what a single change leaves of a network
abbrev pub left_by : Declaration → Trial → Declaration
left_by d (Without change) = changed d change
left_by d (Split link) = split d link

-- the single changes of parts: what can be taken away of them, and then the splits of nodes
abbrev pub single_changes : Declaration → List Trial
single_changes d = map Without (parts_away d) ++ map Split (splits d)

-- the single changes of units
abbrev pub unit_changes : Declaration → List Trial
unit_changes d = map Without (units_away d)

-- In the changed network each flow is well routed, and no channels can wait for one another in a circle. A split has to leave a valid
-- network: the name of the own node is not taken, and no limit is passed. (What is taken away always does.)
abbrev pub Frees : Declaration → Trial → Type 0
Frees d (Without change) = RoutedAndFree (changed d change)
Frees d (Split link) = IsValid (split d link) × RoutedAndFree (split d link)

-- ---- those that free

-- the same in the network with both changes made, the first and then the second
abbrev pub FreesBoth : Declaration → Pair → Type 0
FreesBoth d pair = RoutedAndFree (changed_by_all d (pair.first ∷ pair.second ∷ []))

-- the network that is left where that alone is taken away is not free
abbrev pub FailsAlone : Declaration → Change → Type 0
FailsAlone d change = RoutedAndFree (changed d change) → ⊥

-- it takes both changes: neither frees the network alone
abbrev pub FreesTogether : Declaration → Pair → Type 0
FreesTogether d pair = FailsAlone d pair.first × FailsAlone d pair.second × FreesBoth d pair

-- what is tried is told before the others where it frees, and else not
abbrev pub IsTold : {A : Type 0} → (A → Type 0) → A → List A → List A → Type 0
IsTold IsFree tried others told = (IsFree tried × (told ≡ tried ∷ others)) ⊎ ((IsFree tried → ⊥) × (told ≡ others))

-- those that free, in their order, and no others
abbrev pub AreThose : {A : Type 0} → (A → Type 0) → List A → List A → Type 0
AreThose IsFree [] told = told ≡ []
AreThose IsFree (tried ∷ more) told = (others : _) × AreThose IsFree more others × IsTold IsFree tried others told

-- behind what was told before, those that free of what is tried
abbrev pub AreAdded : {A : Type 0} → (A → Type 0) → List A → List A → List A → Type 0
AreAdded IsFree tried before told = (those : _) × AreThose IsFree tried those × (told ≡ before ++ those)

-- those of the pairs that free it, whether or not one of the two does alone
abbrev pub AreThosePairs : Declaration → List Pair → List Pair → Type 0
AreThosePairs d = AreThose (FreesBoth d)

-- the single changes of parts that free the network
abbrev pub AreMends : Declaration → List Trial → Type 0
AreMends d told = AreThose (Frees d) (single_changes d) told

-- the single changes of units that do
abbrev pub AreUnitMends : Declaration → List Trial → Type 0
AreUnitMends d told = AreThose (Frees d) (unit_changes d) told

-- The pairs of what can be taken away, the first before the second in their order, that free it together and not one of them alone. No split is
-- one of a pair.
abbrev pub ArePairMends : Declaration → List Pair → Type 0
ArePairMends d told = AreThose (FreesTogether d) (pairs_of (removals d)) told
