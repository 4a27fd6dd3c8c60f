-- Two targets at the ends of one link, in an accepted network, lock up where both stall: the numbers do not rise there.
use Rattle.std.specs.Prelude.{List, [], replicate, ℕ, ◌++◌, ◌∷◌}
use Rattle.sw_char.specs.declared.nchar.End.TheVariants.{Eop as ByEop}
use Rattle.sw_machine.specs.Limits.{KeepsLimits}
use Rattle.sw_machine.specs.Network.{Network}
use Rattle.sw_machine.specs.Stalling.{Guard, IsLockedUpUnder, RunUnder}
use Rattle.sw_machine.specs.State.{State, empty}
use Rattle.sw_machine.specs.Steps.{Arrive, Begin, Emit, Step}
use Rattle.sw_machine.specs.Witnesses.{fct}

-- node n sends a command of eight bytes over the channel of that number: all but the end marker fits into the other's buffer
abbrev pub long_command : ℕ → List Step
long_command n = Begin n (replicate 8 1) ByEop ∷ replicate 8 (Emit n) ++ replicate 8 (Arrive n)

-- each has the end marker still to send, so it takes nothing
abbrev pub standoff_steps : List Step
standoff_steps = fct 0 ++ (fct 1 ++ (long_command 0 ++ long_command 1))

-- these steps meet the guard and keep the limits, and lead to a state that is locked up under the guard
pub record LocksUpUnder (guard : Guard) (net : Network) (steps : List Step) : Type 0 where
  pub s : State
  pub run : RunUnder guard net (empty net) steps s
  pub keeps : KeepsLimits net steps
  pub locked : IsLockedUpUnder guard net s
