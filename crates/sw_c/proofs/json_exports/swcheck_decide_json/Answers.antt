use Rattle.std.proofs.Common.{refl}
use Rattle.sw_c.proofs.Read.{object_told}
use Rattle.sw_c.proofs.json_exports.swcheck_decide_json.Goals as goal

pub returns : goal.returns
returns c =
    let given = rw c.into_ended.ensures at c.give_object.ensures in (
      _,
      (refl, refl, refl, refl, refl),
      object_told _ _ _ _ _ _ _ c.new-text.ensures.items c.deref.ensures.value _ _ c.audit_one-end.ensures.ended given,
    )
