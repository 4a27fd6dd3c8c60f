use Rattle.std.proofs.Common.{refl}
use Rattle.sw_cert.proofs.certificate.Certificate.new.Goals as goal

pub returns-then-have_text : goal.returns-then-have_text
returns-then-have_text c = record {
  made = (λ t. rw (c.deref.ensures.value, c.deref-2.ensures.value) at (c.have_text.ensures.0 c.if-have_text.true), λ h. refl);
  contents = refl;
}
