-- What holds of single changes and of pairs of them, and of those that are told.
use Rattle.std.specs.Prelude.{◌≡◌, ◌↔◌, ℕ, ◌<◌, Contains, List, [], ◌∷◌, Some, slice_get}
use Rattle.sw_config.specs.Entries.{Declaration}
use Rattle.sw_config.specs.Valid.{IsValid}
use Rattle.sw_machine.specs.Certificate.{Certificate}
use Rattle.sw_machine.specs.DeadlockFreedom as machine
use Rattle.sw_machine.specs.Model.{network_of}
use Rattle.sw_mend.specs.Changes.{changed, changed_by_all, removals}
use Rattle.sw_mend.specs.Mends.{AreMends, ArePairMends, AreUnitMends, Frees, FreesTogether, left_by, single_changes, unit_changes}
use Rattle.sw_mend.specs.declared.change.Change.{Change}
use Rattle.sw_mend.specs.declared.change.Pair.{Pair}
use Rattle.sw_mend.specs.declared.change.Trial.{Trial}

-- a change is told exactly where it is one of the single changes of parts and frees the network
abbrev pub MendsAreThoseThatFree : Type 0
MendsAreThoseThatFree =
    (d : Declaration) (told : List Trial) (change : Trial)
    → AreMends d told → (Contains told change ↔ (Contains (single_changes d) change × Frees d change))

-- the changes that are told of a network are determined
abbrev pub MendsAreDetermined : Type 0
MendsAreDetermined = (d : Declaration) (told other : List Trial) → AreMends d told → AreMends d other → told ≡ other

-- the same of units
abbrev pub UnitMendsAreThoseThatFree : Type 0
UnitMendsAreThoseThatFree =
    (d : Declaration) (told : List Trial) (change : Trial)
    → AreUnitMends d told → (Contains told change ↔ (Contains (unit_changes d) change × Frees d change))

abbrev pub UnitMendsAreDetermined : Type 0
UnitMendsAreDetermined = (d : Declaration) (told other : List Trial) → AreUnitMends d told → AreUnitMends d other → told ≡ other

-- whatever is taken away, the network that is left is a valid one
abbrev pub ChangesKeepValid : Type 0
ChangesKeepValid = (d : Declaration) (change : Change) → IsValid d → IsValid (changed d change)

-- each change that is told leaves a valid network
abbrev pub MendsKeepValid : Type 0
MendsKeepValid =
    (d : Declaration) (told : List Trial) (change : Trial) → IsValid d → AreMends d told → Contains told change → IsValid (left_by d change)

-- the same of units
abbrev pub UnitMendsKeepValid : Type 0
UnitMendsKeepValid =
    (d : Declaration) (told : List Trial) (change : Trial) → IsValid d → AreUnitMends d told → Contains told change → IsValid (left_by d change)

-- several changes that are one change leave what it leaves
abbrev pub OneAloneIsAChange : Type 0
OneAloneIsAChange = (d : Declaration) (change : Change) → changed_by_all d (change ∷ []) ≡ changed d change

-- where none is made, the network is as it was
abbrev pub NoneChangesNothing : Type 0
NoneChangesNothing = (d : Declaration) → changed_by_all d [] ≡ d

-- whatever several changes take away, the network that is left is a valid one
abbrev pub AllKeepValid : Type 0
AllKeepValid = (d : Declaration) (changes : List Change) → IsValid d → IsValid (changed_by_all d changes)

-- the one change comes before the other in the list
abbrev pub StandsBefore : List Change → Change → Change → Type 0
StandsBefore changes first second =
    (i : ℕ) × (j : ℕ) × (i < j) × (slice_get changes i ≡ Some first) × (slice_get changes j ≡ Some second)

-- a pair is told exactly where both are among what can be taken away, the first before the second, neither frees the network alone, and they
-- free it together
abbrev pub PairsAreThoseThatFree : Type 0
PairsAreThoseThatFree =
    (d : Declaration) (told : List Pair) (pair : Pair)
    → ArePairMends d told → (Contains told pair ↔ (StandsBefore (removals d) pair.first pair.second × FreesTogether d pair))

-- the pairs that are told of a network are determined
abbrev pub PairsAreDetermined : Type 0
PairsAreDetermined = (d : Declaration) (told other : List Pair) → ArePairMends d told → ArePairMends d other → told ≡ other

-- each network that a change which is told leaves never locks up, over every run that keeps the limits on unanswered commands, and over every
-- run where there are none
abbrev pub MendsNeverLockUp : Type 0
MendsNeverLockUp =
    (d : Declaration) (told : List Trial) (change : Trial)
    → IsValid d → AreMends d told → Contains told change → (cert : Certificate) × machine.IsFree (network_of (left_by d change)) cert

-- the same of units
abbrev pub UnitMendsNeverLockUp : Type 0
UnitMendsNeverLockUp =
    (d : Declaration) (told : List Trial) (change : Trial)
    → IsValid d → AreUnitMends d told → Contains told change → (cert : Certificate) × machine.IsFree (network_of (left_by d change)) cert

-- the same of pairs, where both changes are made
abbrev pub PairMendsNeverLockUp : Type 0
PairMendsNeverLockUp =
    (d : Declaration) (told : List Pair) (pair : Pair)
    → IsValid d → ArePairMends d told → Contains told pair
    → (cert : Certificate) × machine.IsFree (network_of (changed_by_all d (pair.first ∷ pair.second ∷ []))) cert
