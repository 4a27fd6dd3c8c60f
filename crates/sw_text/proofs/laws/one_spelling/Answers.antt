use Rattle.std.proofs.Common.{ap, ◌∙◌}
use Rattle.sw_text.specs.Number.{number_of}
use Rattle.sw_text.proofs.Numbers.{read_spelled, spelled_read}
use Rattle.sw_text.proofs.laws.one_spelling.Goals as goal

pub returns : goal.returns
returns c = λ limit n bytes few. (λ e. read_spelled limit n bytes few e, λ h. ap (number_of limit) h.0 ∙ spelled_read limit n few h.1)
