use Rattle.sw_margin.proofs.Tellings.{answers_tell}
use Rattle.sw_margin.proofs.laws.answers_tell.Goals as goal

pub returns : goal.returns
returns c = answers_tell
