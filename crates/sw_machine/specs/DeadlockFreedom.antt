-- The main theorem: what an accepted certificate shows of its network, over every run.
use Rattle.std.specs.Prelude.{List, count_by, length, ℕ, ◌*◌, ◌++◌, ◌+◌, ◌<◌, ◌≡◌, ◌≤◌}
use Rattle.sw_machine.specs.Begun.{AllComesOut, AllIsAnswered, Begun, ComesOutWhole, EachRunIsCounted, IsBounded, IsBoundedByLoad, RepliesAreAsked, RunOf, characters}
use Rattle.sw_machine.specs.Certificate.{Certificate, IsAccepted, number}
use Rattle.sw_machine.specs.Limits.{HasNoLimits, IsReachedWithinLimits, KeepsLimits}
use Rattle.sw_machine.specs.Network.{IsNetwork, Network}
use Rattle.sw_machine.specs.Owed.{OnlyAskedOwe}
use Rattle.sw_machine.specs.Places.{IsCycle, IsRising, IsWellRouted}
use Rattle.sw_machine.specs.Runs.{GoesOn, IsLockedUp, IsQuiet, IsReached, undelivered}
use Rattle.sw_machine.specs.State.{State, empty}
use Rattle.sw_machine.specs.Steps.{Drop, IsPossible, Spill, Step, is_begin}

-- each reached state that holds an undelivered character has a possible step other than a beginning
abbrev pub AlwaysGoesOn : Network → Type 0
AlwaysGoesOn net = (s : State) → IsReached net s → 0 < undelivered net s → GoesOn net s

abbrev pub IsNeverLockedUp : Network → Type 0
IsNeverLockedUp net = (s : State) → IsReached net s → IsLockedUp net s → ⊥

-- in a quiet reached state nothing is undelivered
abbrev pub QuietIsEmpty : Network → Type 0
QuietIsEmpty net = (s : State) → IsReached net s → IsQuiet net s → undelivered net s ≡ 0

-- in no reached state is a step possible that drops or spills: no character is lost in any run
abbrev pub NothingIsDropped : Network → Type 0
NothingIsDropped net = (s : State) → IsReached net s → (c : ℕ) → (IsPossible net s (Drop c) → ⊥) × (IsPossible net s (Spill c) → ⊥)

-- from a reached state, steps other than beginnings that can't go on end within the bound, with nothing undelivered
abbrev pub EndsEmpty : Network → Type 0
EndsEmpty net = (steps : List Step) (begun : List Begun) (s : State) → RunOf net (empty net) steps begun s → (more : List Step) (replies : List Begun) (t : State) → RunOf net s more replies t → count_by is_begin more ≡ 0 → IsQuiet net t → (undelivered net t ≡ 0) × (length more ≤ net.channels * (14 + 5 * characters net (begun ++ replies)))

-- The same over the runs that keep the limits on unanswered commands.
abbrev pub AlwaysGoesOnWithinLimits : Network → Type 0
AlwaysGoesOnWithinLimits net = (s : State) → IsReachedWithinLimits net s → 0 < undelivered net s → GoesOn net s

abbrev pub IsNeverLockedUpWithinLimits : Network → Type 0
IsNeverLockedUpWithinLimits net = (s : State) → IsReachedWithinLimits net s → IsLockedUp net s → ⊥

abbrev pub QuietIsEmptyWithinLimits : Network → Type 0
QuietIsEmptyWithinLimits net = (s : State) → IsReachedWithinLimits net s → IsQuiet net s → undelivered net s ≡ 0

-- (the steps that follow hold no beginning, so they keep the limits too)
abbrev pub EndsEmptyWithinLimits : Network → Type 0
EndsEmptyWithinLimits net = (steps : List Step) (begun : List Begun) (s : State) → RunOf net (empty net) steps begun s → KeepsLimits net steps → (more : List Step) (replies : List Begun) (t : State) → RunOf net s more replies t → count_by is_begin more ≡ 0 → IsQuiet net t → (undelivered net t ≡ 0) × (length more ≤ net.channels * (14 + 5 * characters net (begun ++ replies)))

-- what an accepted certificate shows of its network, where no node has a limit
pub record IsDeadlockFree (net : Network) (cert : Certificate) : Type 0 where
  pub well_routed : (i : ℕ) → i < net.flows → IsWellRouted net i
  pub rising : IsRising net (number cert)
  pub no_cycle : (cycle : List ℕ) → IsCycle net cycle → ⊥
  pub always_goes_on : AlwaysGoesOn net
  pub never_locked_up : IsNeverLockedUp net
  pub quiet_is_empty : QuietIsEmpty net
  pub nothing_is_dropped : NothingIsDropped net
  pub each_run_is_counted : EachRunIsCounted net
  pub comes_out_whole : ComesOutWhole net
  pub all_comes_out : AllComesOut net
  pub replies_are_asked : RepliesAreAsked net
  pub all_is_answered : AllIsAnswered net
  pub only_asked_owe : OnlyAskedOwe net
  pub bounded : IsBounded net
  pub bounded_by_load : IsBoundedByLoad net
  pub ends_empty : EndsEmpty net

-- what it shows of each network: over the runs that keep the limits where targets matter, over every run elsewhere
pub record IsDeadlockFreeWithinLimits (net : Network) (cert : Certificate) : Type 0 where
  pub well_routed : (i : ℕ) → i < net.flows → IsWellRouted net i
  pub rising : IsRising net (number cert)
  pub no_cycle : (cycle : List ℕ) → IsCycle net cycle → ⊥
  pub always_goes_on : AlwaysGoesOnWithinLimits net
  pub never_locked_up : IsNeverLockedUpWithinLimits net
  pub quiet_is_empty : QuietIsEmptyWithinLimits net
  pub nothing_is_dropped : NothingIsDropped net
  pub each_run_is_counted : EachRunIsCounted net
  pub comes_out_whole : ComesOutWhole net
  pub all_comes_out : AllComesOut net
  pub replies_are_asked : RepliesAreAsked net
  pub all_is_answered : AllIsAnswered net
  pub only_asked_owe : OnlyAskedOwe net
  pub bounded : IsBounded net
  pub bounded_by_load : IsBoundedByLoad net
  pub ends_empty : EndsEmptyWithinLimits net

-- what an accepted certificate shows: what holds over the runs that keep the limits, and over every run where no node has a limit
pub record IsFree (net : Network) (cert : Certificate) : Type 0 where
  pub within_limits : IsDeadlockFreeWithinLimits net cert
  pub without_limits : HasNoLimits net → IsDeadlockFree net cert

-- what holds of each network with an accepted certificate
abbrev pub OfAccepted : (Network → Type 0) → Type 0
OfAccepted P = (net : Network) (cert : Certificate) → IsNetwork net → IsAccepted net cert → P net

-- the same of those in which no node has a limit
abbrev pub OfAcceptedWithoutLimits : (Network → Type 0) → Type 0
OfAcceptedWithoutLimits P = (net : Network) (cert : Certificate) → IsNetwork net → HasNoLimits net → IsAccepted net cert → P net

abbrev pub AcceptedIsFree : Type 0
AcceptedIsFree = (net : Network) (cert : Certificate) → IsNetwork net → IsAccepted net cert → IsFree net cert
