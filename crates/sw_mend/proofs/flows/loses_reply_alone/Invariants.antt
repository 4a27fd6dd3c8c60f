use Rattle.std.proofs.Common.{◌≡◌, false, take}
use Rattle.std.specs.List.{list_any}
use Rattle.sw_mend.specs.Changes.{loses_flow, loses_reply}
use Rattle.sw_mend.proofs.flows.loses_reply_alone.Given as goal

abbrev pub invariant-loop-change : goal.invariant-loop-change
invariant-loop-change l =
    (list_any (λ change. loses_flow change l.number l.flow) (take l.change-index l.changes) ≡ false)
    × (l.is_unanswered ≡ list_any (λ change. loses_reply change l.number l.flow) (take l.change-index l.changes))
