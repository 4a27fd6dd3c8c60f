-- What a verdict says, that it is determined, and that exactly one holds.
use Rattle.std.specs.Prelude.{◌≡◌, ◌↔◌, ◌⊎◌, ℕ, Contains, None, [], map}
use Rattle.sw_config.specs.Entries.{FlowEntry, Declaration, all_flows}
use Rattle.sw_config.specs.Valid.{IsValid}
use Rattle.sw_flow.specs.Faults.{IsWellRouted}
use Rattle.sw_machine.specs.Certificate.{Certificate, IsAccepted}
use Rattle.sw_machine.specs.DeadlockFreedom as machine
use Rattle.sw_machine.specs.Places.{IsRising}
use Rattle.sw_cycle.specs.Model.{network_of}
use Rattle.sw_graph.specs.Levels.{HasCycle}
use Rattle.sw_cycle.specs.Cycles.{ByFlow, ByTarget, CauseEntry, CycleEntry, IsShown}
use Rattle.sw_cert.specs.Text.{Contents}
use Rattle.sw_cert.specs.Contents.{certificate_of}
use Rattle.sw_cert.specs.Refusals.{refusal_of}
use Rattle.sw_search.specs.declared.verdict.Verdict.{Verdict}
use Rattle.sw_search.specs.declared.verdict.Verdict.TheVariants.{Misrouted, Cyclic, Free}
use Rattle.sw_search.specs.Verdicts.{AllWellRouted, IsCyclic, IsFree, IsVerdict, depends}

-- the same target or flow, with no places that show it
abbrev pub without_places : CauseEntry → CauseEntry
without_places (ByTarget node) = ByTarget node
without_places (ByFlow flow places) = ByFlow flow []

-- the same channels, each with the same cause; only the places that show a cause may differ
pub record IsSameCycle (cycle other : CycleEntry) : Type 0 where
  pub channels : cycle.channels ≡ other.channels
  pub causes : map without_places cycle.causes ≡ map without_places other.causes

-- Two verdicts say the same: of one kind, with the same flow, place and fault, with the same cycle, or with the same certificate.
abbrev pub SaysTheSame : Verdict → Verdict → Type 0
SaysTheSame (Misrouted i p fault) (Misrouted j q other) = (i ≡ j) × (p ≡ q) × (fault ≡ other)
SaysTheSame (Misrouted i p fault) v = ⊥
SaysTheSame (Cyclic cycle) (Cyclic other) = IsSameCycle cycle other
SaysTheSame (Cyclic cycle) v = ⊥
SaysTheSame (Free contents) (Free other) = contents ≡ other
SaysTheSame (Free contents) v = ⊥

-- any two verdicts on a network say the same
abbrev pub VerdictsAreDetermined : Type 0
VerdictsAreDetermined = (d : Declaration) (v w : Verdict) → IsVerdict d v → IsVerdict d w → SaysTheSame v w

-- the certificate of a free network is accepted for it, and not refused
abbrev pub FreeIsAccepted : Type 0
FreeIsAccepted = (d : Declaration) (contents : Contents) → IsValid d → IsFree d contents → IsAccepted (network_of d) (certificate_of contents) × (refusal_of d contents ≡ None)

-- the cycle of a cyclic network is shown by its causes, so that no numbers rise along the dependencies
abbrev pub CyclicIsShown : Type 0
CyclicIsShown = (d : Declaration) (cycle : CycleEntry) → IsValid d → IsCyclic d cycle → IsShown d cycle × ((number : ℕ → ℕ) → IsRising (network_of d) number → ⊥)

-- the certificate of a verdict is not refused, and its cycle is shown
abbrev pub IsChecked : Declaration → Verdict → Type 0
IsChecked d (Misrouted i p fault) = Unit {0}
IsChecked d (Cyclic cycle) = IsShown d cycle
IsChecked d (Free contents) = refusal_of d contents ≡ None

-- some flow is not well routed, declared or of replies
abbrev pub SomeMisrouted : Declaration → Type 0
SomeMisrouted d = (f : FlowEntry) × Contains (all_flows d) f × (IsWellRouted d f → ⊥)

-- each flow is well routed, and the dependencies have a cycle
abbrev pub RoutedAndCyclic : Declaration → Type 0
RoutedAndCyclic d = AllWellRouted d × HasCycle (depends d)

-- each flow is well routed, and the dependencies have no cycle
abbrev pub RoutedAndFree : Declaration → Type 0
RoutedAndFree d = AllWellRouted d × (HasCycle (depends d) → ⊥)

-- one of the three holds, and no two of them
pub record IsExactlyOne (A B C : Type 0) : Type 0 where
  pub some : A ⊎ (B ⊎ C)
  pub not_first_second : A → B → ⊥
  pub not_first_third : A → C → ⊥
  pub not_second_third : B → C → ⊥

-- of each valid network exactly one of these holds
abbrev pub OneVerdictHolds : Type 0
OneVerdictHolds = (d : Declaration) → IsValid d → IsExactlyOne (SomeMisrouted d) (RoutedAndCyclic d) (RoutedAndFree d)

-- which of them a verdict stands for
abbrev pub StandsFor : Declaration → Verdict → Type 0
StandsFor d (Misrouted i p fault) = SomeMisrouted d
StandsFor d (Cyclic cycle) = RoutedAndCyclic d
StandsFor d (Free contents) = RoutedAndFree d

-- a verdict on a network stands for the one that holds
abbrev pub VerdictsTell : Type 0
VerdictsTell = (d : Declaration) (v : Verdict) → IsVerdict d v → StandsFor d v

-- there are numbers that rise along the dependencies exactly where these have no cycle
abbrev pub RisingIsWhereNoCycleIs : Type 0
RisingIsWhereNoCycleIs = (d : Declaration) → IsValid d → ((HasCycle (depends d) → ⊥) ↔ ((number : ℕ → ℕ) × IsRising (network_of d) number))

-- a valid network in which each flow is well routed and no channels can wait for one another in a circle has a certificate that is accepted
-- for it
abbrev pub FreeIsCertified : Type 0
FreeIsCertified = (d : Declaration) → IsValid d → RoutedAndFree d → (cert : Certificate) × IsAccepted (network_of d) cert

-- so it never locks up, over every run that keeps the limits on unanswered commands, and over every run where there are none
abbrev pub FreeNeverLocksUp : Type 0
FreeNeverLocksUp = (d : Declaration) → IsValid d → RoutedAndFree d → (cert : Certificate) × machine.IsFree (network_of d) cert
