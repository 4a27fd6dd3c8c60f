use Rattle.sw_schedule.proofs.Written.{written_read}
use Rattle.sw_schedule.proofs.laws.written_is_read.Goals as goal

pub returns : goal.returns
returns c = λ d steps lines h few. written_read d steps lines h few
