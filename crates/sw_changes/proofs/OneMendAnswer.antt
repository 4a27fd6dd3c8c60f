-- `mend` has one answer.
use Rattle.sw_engine.proofs.LineEnds.{one_in_lines}
use Rattle.sw_changes.proofs.OneMending.{one_status, one_text}
use Rattle.sw_changes.specs.MendLaws.{MendHasOneAnswer, MendingsAreDetermined}
use Rattle.sw_changes.specs.MendTexts.{mending_status, mending_text}
use Rattle.sw_changes.specs.Mendings.{IsMending}

pub one_answer : MendingsAreDetermined → MendHasOneAnswer
one_answer one_mending pairs =
    one_in_lines (IsMending pairs) mending_text mending_status
    (λ d m n h k.
    let same = one_mending pairs d m n h k in
    (one_text d m n same, one_status m n same))
