use Rattle.sw_c.proofs.Read.{report_given}
use Rattle.sw_c.proofs.exports.swcheck_report.Goals as goal

pub returns : goal.returns
returns c =
    let given = rw c.into_ended-ended.ensures at c.give_ended.ensures in
    report_given _ _ _ _ _ _ _ c.new-text.ensures.items c.deref.ensures.value _ _ _ c.report.ensures.ended given
