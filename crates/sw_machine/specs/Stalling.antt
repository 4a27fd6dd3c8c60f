-- The same machine with a further guard on each step, and nodes that take nothing while they have something to send (this project's choice).
use Rattle.std.specs.Prelude.{Bool, List, [], false, true, ℕ, ◌<◌, ◌↔◌, ◌∷◌, ◌≡◌}
use Rattle.sw_machine.specs.Certificate.{Certificate, IsAccepted, number}
use Rattle.sw_machine.specs.Limits.{KeepsLimits}
use Rattle.sw_machine.specs.Network.{IsNetwork, Network}
use Rattle.sw_machine.specs.Runs.{Run, undelivered}
use Rattle.sw_machine.specs.State.{State, empty}
use Rattle.sw_machine.specs.Steps.{Accept, IsPossible, Leads, Step, is_begin}

-- in which states which steps may be done, of those that are possible there
abbrev pub Guard : Type 1
Guard = State → Step → Type 0

-- the steps lead from s to t, one after another, and each meets the guard in the state before it
abbrev pub RunUnder : Guard → Network → State → List Step → State → Type 0
RunUnder guard net s [] t = t ≡ s
RunUnder guard net s (step ∷ steps) t = (mid : State) × guard s step × Leads net s step mid × RunUnder guard net mid steps t

-- a run under the guard that keeps the limits on unanswered commands leads there
abbrev pub IsReachedUnder : Guard → Network → State → Type 0
IsReachedUnder guard net s = (steps : List Step) × RunUnder guard net (empty net) steps s × KeepsLimits net steps

-- no step other than a beginning meets the guard and is possible
abbrev pub IsQuietUnder : Guard → Network → State → Type 0
IsQuietUnder guard net s = (step : Step) → is_begin step ≡ false → guard s step → IsPossible net s step → ⊥

pub record IsLockedUpUnder (guard : Guard) (net : Network) (s : State) : Type 0 where
  pub quiet : IsQuietUnder guard net s
  pub holds : 0 < undelivered net s

-- some step other than a beginning meets the guard and is possible
pub record GoesOnUnder (guard : Guard) (net : Network) (s : State) : Type 0 where
  pub step : Step
  pub no_begin : is_begin step ≡ false
  pub meets : guard s step
  pub possible : IsPossible net s step

-- node n sends no packet, and no reply waits there
pub record HasNothingToSend (s : State) (n : ℕ) : Type 0 where
  pub sends_nothing : s.to_send n ≡ []
  pub none_pending : s.pending n ≡ []

-- a node that stalls takes a character only while it has nothing to send
abbrev pub StallingGuard : (ℕ → Bool) → State → Step → Type 0
StallingGuard stalls s (Accept n) = stalls n ≡ true → HasNothingToSend s n
StallingGuard stalls s step = Unit {0}

-- the numbers rise from the channel into each node that stalls to the channel out of it
abbrev pub RisesWhereStalling : Network → (ℕ → Bool) → (ℕ → ℕ) → Type 0
RisesWhereStalling net stalls number = (n : ℕ) → n < net.nodes → stalls n ≡ true → number (net.into n) < number (net.out n)

-- each state reached under the guard that holds an undelivered character has a possible step other than a beginning that meets the guard
abbrev pub AlwaysGoesOnUnder : Guard → Network → Type 0
AlwaysGoesOnUnder guard net = (s : State) → IsReachedUnder guard net s → 0 < undelivered net s → GoesOnUnder guard net s

abbrev pub IsNeverLockedUpUnder : Guard → Network → Type 0
IsNeverLockedUpUnder guard net = (s : State) → IsReachedUnder guard net s → IsLockedUpUnder guard net s → ⊥

-- in a state reached under the guard that is quiet under it nothing is undelivered
abbrev pub QuietIsEmptyUnder : Guard → Network → Type 0
QuietIsEmptyUnder guard net = (s : State) → IsReachedUnder guard net s → IsQuietUnder guard net s → undelivered net s ≡ 0

-- what holds, whichever nodes stall, of each network with an accepted certificate whose numbers rise at these nodes too
abbrev pub OfAcceptedStalling : (Guard → Network → Type 0) → Type 0
OfAcceptedStalling P = (net : Network) (cert : Certificate) (stalls : ℕ → Bool) → IsNetwork net → IsAccepted net cert → RisesWhereStalling net stalls (number cert) → P (StallingGuard stalls) net

-- each run under a guard is a run
abbrev pub RunsUnderAreRuns : Guard → Type 0
RunsUnderAreRuns guard = (net : Network) (s : State) (steps : List Step) (t : State) → RunUnder guard net s steps t → Run net s steps t

-- where no node stalls, the runs under the guard are the runs
abbrev pub NoneStallingIsTheMachine : Type 0
NoneStallingIsTheMachine = (net : Network) (s : State) (steps : List Step) (t : State) → RunUnder (StallingGuard (λ n. false)) net s steps t ↔ Run net s steps t
