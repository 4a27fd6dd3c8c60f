use Rattle.sw_linter.proofs.Members.{all_listed}
use Rattle.sw_linter.proofs.laws.all_places_are_listed.Goals as goal

pub returns : goal.returns
returns c = all_listed
