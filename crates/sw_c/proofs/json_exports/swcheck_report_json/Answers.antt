use Rattle.std.specs.Prelude.{codes}
use Rattle.sw_c.specs.Objects.{this}
use Rattle.sw_c.proofs.Read.{report_object_given}
use Rattle.sw_c.proofs.json_exports.swcheck_report_json.Goals as goal

pub returns : goal.returns
returns c =
    let given = rw c.into_ended-ended.ensures at c.give_object.ensures in
    report_object_given _ _ _ _ _ _ _ c.new-text.ensures.items c.deref.ensures.value (codes "network") this _ _ _ c.report.ensures.ended given
