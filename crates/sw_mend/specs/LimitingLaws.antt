-- What holds of the limit and the slots that are told.
use Rattle.std.specs.Prelude.{◌≡◌, ◌≢◌, ℕ, ◌<◌, ◌≤◌, true, false, [], Option, Some}
use Rattle.sw_config.specs.Entries.{Declaration}
use Rattle.sw_config.specs.Limits.{limit_at, may_make_wait}
use Rattle.sw_config.specs.Valid.{IsValid}
use Rattle.sw_machine.specs.Certificate.{Certificate}
use Rattle.sw_machine.specs.DeadlockFreedom as machine
use Rattle.sw_machine.specs.Model.{network_of}
use Rattle.sw_search.specs.Laws.{RoutedAndFree}
use Rattle.sw_mend.specs.Limitings.{FreesLimited, IsLimiting, Limiting, has_unlimited, limit_alone, limited_by, more_slots, with_slots}

-- what is told frees the network, and no target has more slots than it may have
abbrev pub LimitingsFree : Type 0
LimitingsFree = (d : Declaration) (told : Limiting) → IsLimiting d (Some told) → FreesLimited d told

-- no greater limit up to 8 frees it by itself
abbrev pub GreaterLimitsDoNotFree : Type 0
GreaterLimitsDoNotFree =
    (d : Declaration) (told : Limiting) (most n : ℕ) → IsLimiting d (Some told) → told.most ≡ Some most → most < n → n ≤ 8
    → RoutedAndFree (limited_by d (limit_alone n)) → ⊥

-- where flows are unlimited, slots are told only if no limit up to 8 frees it by itself
abbrev pub SlotsAreForWant : Type 0
SlotsAreForWant =
    (d : Declaration) (told : Limiting) (n : ℕ) → IsLimiting d (Some told) → told.slots ≢ [] → has_unlimited d ≡ true → 1 ≤ n → n ≤ 8
    → RoutedAndFree (limited_by d (limit_alone n)) → ⊥

-- with the slots that are wanted, no node that has a limit makes others wait
abbrev pub WithSlotsNoneWaits : Type 0
WithSlotsNoneWaits = (d : Declaration) (n limit : ℕ) → IsValid d → limit_at d n ≡ Some limit → may_make_wait (with_slots d (more_slots d)) n ≡ false

-- what is told of a network is determined
abbrev pub LimitingsAreDetermined : Type 0
LimitingsAreDetermined = (d : Declaration) (told other : Option Limiting) → IsLimiting d told → IsLimiting d other → told ≡ other

-- the limit and the slots that are told leave a valid network
abbrev pub LimitingsKeepValid : Type 0
LimitingsKeepValid = (d : Declaration) (told : Limiting) → IsValid d → IsLimiting d (Some told) → IsValid (limited_by d told)

-- the network that they leave never locks up, over every run that keeps its limits on unanswered commands, and over every run where it has
-- none
abbrev pub LimitingsNeverLockUp : Type 0
LimitingsNeverLockUp =
    (d : Declaration) (told : Limiting) → IsValid d → IsLimiting d (Some told) → (cert : Certificate) × machine.IsFree (network_of (limited_by d told)) cert
