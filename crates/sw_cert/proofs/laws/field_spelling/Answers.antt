use Rattle.std.proofs.Common.{ap, ◌∙◌}
use Rattle.sw_cert.specs.Grammar.{field}
use Rattle.sw_cert.proofs.Fields.{field_spelled, field_read}
use Rattle.sw_cert.proofs.laws.field_spelling.Goals as goal

pub returns : goal.returns
returns c = λ word line limit n few. (λ e. field_spelled word line limit n few e, λ h. ap (field word limit) h.0 ∙ field_read word limit n few h.1)
