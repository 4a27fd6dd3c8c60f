use Rattle.std.proofs.Common.{List, ℕ}
use Rattle.std.specs.Borrow.{Bor}
use Rattle.sw_json_verdicts.proofs.Chosen.{at_place}
use Rattle.sw_json_verdicts.proofs.parallel.judged_at.Goals as goal

pub returns : goal.returns
returns g c = at_place (λ (s : Bor (List ℕ)). s.now) _ c.args.paths.now c.args.place _ c.requires c.judge.ensures
