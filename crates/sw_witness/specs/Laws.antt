-- What holds of replies that can't happen.
use Rattle.std.specs.Prelude.{◌≡◌, ℕ, true, List, ◌++◌, None}
use Rattle.sw_config.specs.Entries.{NodeEntry, FlowEntry, Declaration}
use Rattle.sw_config.specs.Valid.{IsValid}
use Rattle.sw_machine.specs.Model.{network_of}
use Rattle.sw_machine.specs.DeclaredPackets.{IsAnsweredRightly, left_bytes, reply_from}
use Rattle.sw_witness.specs.OtherFlows.{NeverLocksUp}
use Rattle.sw_witness.specs.Unanswered.{IsFreeWithout, can_not_be_answered}

-- no packet that such a flow declares gets a reply, whatever its cargo
abbrev pub NoneIsAnswered : Type 0
NoneIsAnswered =
    (nodes : List NodeEntry) (f : FlowEntry) (cargo : List ℕ)
    → can_not_be_answered f ≡ true → IsAnsweredRightly nodes f cargo → reply_from nodes f.to (left_bytes f ++ cargo) ≡ None

-- a network that is free without the replies that can't happen never locks up, in any run, though it may be told as cyclic
abbrev pub FreeWithoutNeverLocksUp : Type 0
FreeWithoutNeverLocksUp = (d : Declaration) → IsValid d → IsFreeWithout d → NeverLocksUp (network_of d)
