use Rattle.sw_rmap.proofs.Answering.{answers_by_the_way_back}
use Rattle.sw_rmap.proofs.laws.answers_by_the_way_back.Goals as goal

pub returns : goal.returns
returns c = answers_by_the_way_back
