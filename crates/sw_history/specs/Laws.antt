-- What holds of histories.
use Rattle.std.specs.Prelude.{List, ◌↔◌, ◌≡◌}
use Rattle.sw_history.specs.Next.{MayFollow}
use Rattle.sw_load.specs.History.{BeginsNext, IsHistory, KeepsLimit}
use Rattle.sw_machine.specs.Begun.{Begun}
use Rattle.sw_machine.specs.Network.{Network}
use Rattle.sw_machine.specs.State.{State}
use Rattle.sw_machine.specs.Steps.{IsPossible, Step}

-- the state after a history is one
abbrev pub OneStateAfter : Type 0
OneStateAfter = (net : Network) (packets : List Begun) (steps : List Step) (s t : State) → IsHistory net packets steps s → IsHistory net packets steps t → t ≡ s

-- a step may follow exactly where it is possible in the state after the history, begins no packet but its node's next, and keeps the limit on
-- unanswered commands
abbrev pub FollowsWherePossible : Type 0
FollowsWherePossible = (net : Network) (packets : List Begun) (steps : List Step) (s : State) → IsHistory net packets steps s → (step : Step)
    → MayFollow net packets steps step ↔ (IsPossible net s step × BeginsNext net packets steps step × KeepsLimit net steps s step)
