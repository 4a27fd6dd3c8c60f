use Rattle.sw_schedule.proofs.Parts.{parts_said, parts_read}
use Rattle.sw_schedule.proofs.laws.lines_are_read.Goals as goal

pub returns : goal.returns
returns c = λ d lines steps. (λ e. parts_said d lines steps e, λ s. parts_read d lines steps s)
