-- Idle marks.
use Rattle.std.specs.Prelude.{List, length, take, ℕ, ◌≤◌}
use Rattle.sw_history.specs.Next.{IsIdle}
use Rattle.sw_machine.specs.Begun.{Begun}
use Rattle.sw_machine.specs.Network.{Network}
use Rattle.sw_machine.specs.Steps.{Step}

-- after the first k steps of the history no step of the link end where channel e starts could follow, the beginning of its node's next
-- packet included
pub record IsTrueMark (net : Network) (packets : List Begun) (steps : List Step) (e k : ℕ) : Type 0 where
  pub within : k ≤ length steps
  pub idle : IsIdle net packets (take k steps) e
