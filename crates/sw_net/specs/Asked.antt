-- What a network tells of the states that its cells are the parts of.
use Rattle.std.specs.Prelude.{Bool, None, Option, Some, false, true, ℕ, ◌<◌}
use Rattle.sw_cell.specs.Possible.{CanStepAt}
use Rattle.sw_machine.specs.Runs.{GoesOn, IsQuiet}
use Rattle.sw_machine.specs.State.{State}
use Rattle.sw_machine.specs.Model.{network_of}
use Rattle.sw_net.specs.Net.{IsNetState, NetView}

-- true: some step of the link end where channel e starts is possible, other than a beginning; false: none is
abbrev pub CanStep : {R A : Type 0} → NetView R A → ℕ → Bool → Type 0
CanStep v e true = (s : State) → IsNetState v s → CanStepAt (network_of v.declared) s e
CanStep v e false = (s : State) → IsNetState v s → CanStepAt (network_of v.declared) s e → ⊥

-- Some: this is the least link end that can step; None: the net is quiet
abbrev pub IsFirst : {R A : Type 0} → NetView R A → Option ℕ → Type 0
IsFirst v None = (s : State) → IsNetState v s → IsQuiet (network_of v.declared) s
IsFirst v (Some e) = (e < (network_of v.declared).channels) × CanStep v e true × ((k : ℕ) → k < e → CanStep v k false)

-- true: no step other than a beginning is possible; false: some is
abbrev pub IsQuietNet : {R A : Type 0} → NetView R A → Bool → Type 0
IsQuietNet v true = (s : State) → IsNetState v s → IsQuiet (network_of v.declared) s
IsQuietNet v false = (s : State) → IsNetState v s → GoesOn (network_of v.declared) s
