-- What a call answers that makes a step of the network.
use Rattle.std.specs.Prelude.{Err, List, None, Ok, Option, Result, Some, slice_index, slice_set, ℕ, ◌+◌}
use Rattle.sw_history.specs.declared.fault.StepFault.{StepFault}
use Rattle.sw_history.specs.declared.fault.StepFault.TheVariants.{Memory, NotEnabled}
use Rattle.sw_machine.specs.State.{State}
use Rattle.sw_machine.specs.Steps.{IsPossible, Step}
use Rattle.sw_machine.specs.Model.{network_of}
use Rattle.sw_net.specs.Net.{IsNetState, NetAnswers, NetView}

-- Ok: the step was made; NotEnabled: it is not possible; Memory: it is
abbrev pub Makes : {R A : Type 0} → NetView R A → Step → Result Unit StepFault → NetView R A → Type 0
Makes v step (Ok done) w = NetAnswers v step (Ok tt) w
Makes v step (Err NotEnabled) w = (s : State) → IsNetState v s → IsPossible (network_of v.declared) s step → ⊥
Makes v step (Err Memory) w = (s : State) → IsNetState v s → IsPossible (network_of v.declared) s step

-- how many packets each node has begun, with one more of this node
abbrev pub counted_with : List ℕ → Option ℕ → List ℕ
counted_with begun None = begun
counted_with begun (Some n) = slice_set begun n (slice_index begun n + 1)
