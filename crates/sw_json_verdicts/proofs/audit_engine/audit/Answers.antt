use Rattle.std.proofs.Common.{inl, inr, refl, string_bytes}
use Rattle.sw_json_verdicts.proofs.Told.{of_noted}
use Rattle.sw_json_verdicts.proofs.audit_engine.audit.Goals as goal

pub returns-in-Ok-clause-ended : goal.returns-in-Ok-clause-ended
returns-in-Ok-clause-ended g c = (
  string_bytes c.in-Ok.noted.answer.text,
  c.in-Ok.noted.answer.status,
  inl (of_noted _ _ _ _ _ _ _ c.in-Ok.ensures),
  c.tell_audit-ended.ensures,
)

pub returns-in-Ok-clause-noted : goal.returns-in-Ok-clause-noted
returns-in-Ok-clause-noted g c = (string_bytes c.in-Ok.noted.answer.text, c.in-Ok.noted.answer.status, inl c.in-Ok.ensures, c.tell_audit-ended.ensures)

pub returns-in-Err-clause-ended : goal.returns-in-Err-clause-ended
returns-in-Err-clause-ended g c = (_, _, inr (refl, refl), c.tell_audit-ended-in-Err.ensures)

pub returns-in-Err-clause-noted : goal.returns-in-Err-clause-noted
returns-in-Err-clause-noted g c = (_, _, inr (refl, refl), c.tell_audit-ended-in-Err.ensures)
