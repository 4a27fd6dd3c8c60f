use Rattle.sw_schedule.proofs.Parts.{skips, puts_in}
use Rattle.sw_schedule.proofs.laws.skipped_lines_say_nothing.Goals as goal

pub returns : goal.returns
returns c = λ d xs ys line steps t. (λ e. skips d xs ys line steps t e, λ e. puts_in d xs ys line steps t e)
