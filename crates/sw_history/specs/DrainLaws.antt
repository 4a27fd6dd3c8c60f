-- Where nothing more can happen in a network that can't lock up.
use Rattle.std.specs.Prelude.{ℕ, ◌<◌, ◌≡◌}
use Rattle.sw_net.specs.CellPossible.{CanStepAt}
use Rattle.sw_machine.specs.DeadlockFreedom.{OfAccepted, OfAcceptedWithoutLimits}
use Rattle.sw_machine.specs.Limits.{IsReachedWithinLimits}
use Rattle.sw_machine.specs.Network.{Network}
use Rattle.sw_machine.specs.Runs.{IsReached, undelivered}
use Rattle.sw_machine.specs.State.{State}

-- no link end has a possible step other than a beginning
abbrev pub NoneCanStep : Network → State → Type 0
NoneCanStep net s = (e : ℕ) → e < net.channels → CanStepAt net s e → ⊥

-- in a reached state where none has, nothing is undelivered
abbrev pub IdleIsEmpty : Network → Type 0
IdleIsEmpty net = (s : State) → IsReached net s → NoneCanStep net s → undelivered net s ≡ 0

-- the same in a state that is reached by a run which keeps the limits on unanswered commands
abbrev pub IdleIsEmptyWithinLimits : Network → Type 0
IdleIsEmptyWithinLimits net = (s : State) → IsReachedWithinLimits net s → NoneCanStep net s → undelivered net s ≡ 0

-- so it is wherever a certificate is accepted
abbrev pub AcceptedIdleIsEmptyWithinLimits : Type 0
AcceptedIdleIsEmptyWithinLimits = OfAccepted IdleIsEmptyWithinLimits

-- and in every reached state, if no node has a limit
abbrev pub AcceptedIdleIsEmpty : Type 0
AcceptedIdleIsEmpty = OfAcceptedWithoutLimits IdleIsEmpty
