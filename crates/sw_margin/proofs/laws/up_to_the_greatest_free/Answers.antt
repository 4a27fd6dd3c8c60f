use Rattle.sw_margin.proofs.Greatest.{up_to_the_greatest_free}
use Rattle.sw_margin.proofs.laws.up_to_the_greatest_free.Goals as goal

pub returns : goal.returns
returns c = up_to_the_greatest_free
