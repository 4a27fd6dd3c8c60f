use Rattle.sw_app.proofs.OneRoute.{route_has_one_answer}
use Rattle.sw_app.proofs.laws.route_has_one_answer.Goals as goal

pub returns : goal.returns
returns c = route_has_one_answer
