-- Where no link end can step, nothing is undelivered.
use Rattle.std.proofs.Common.{refl}
use Rattle.sw_history.specs.DrainLaws.{AcceptedIdleIsEmpty, AcceptedIdleIsEmptyWithinLimits, NoneCanStep}
use Rattle.sw_machine.proofs.Free.{is_deadlock_free, is_deadlock_free_within_limits}
use Rattle.sw_machine.proofs.Parts.{link_ends}
use Rattle.sw_machine.specs.Network.{IsNetwork, Network}
use Rattle.sw_machine.specs.Parts.{link_end_of}
use Rattle.sw_machine.specs.Runs.{IsQuiet}
use Rattle.sw_machine.specs.State.{State}

quiet : (net : Network) → IsNetwork net → (s : State) → NoneCanStep net s → IsQuiet net s
quiet net ok s none step no_begin p = none (link_end_of net step) (link_ends net ok s step p).0 (record { step = step; belongs = refl; no_begin = no_begin; possible = p })

pub accepted_idle_is_empty_within_limits : AcceptedIdleIsEmptyWithinLimits
accepted_idle_is_empty_within_limits net cert ok accepted s reached none = (is_deadlock_free_within_limits net cert ok accepted).quiet_is_empty s reached (quiet net ok s none)

pub accepted_idle_is_empty : AcceptedIdleIsEmpty
accepted_idle_is_empty net cert ok free accepted s reached none = (is_deadlock_free net cert ok accepted free).quiet_is_empty s reached (quiet net ok s none)
