use Rattle.std.proofs.Common.{subst}
use Rattle.sw_history.proofs.Enabled.{first_is_chosen, nth_is_chosen}
use Rattle.sw_history.proofs.Steps.{first_within}
use Rattle.sw_history.proofs.moves.enabled_at.Goals as goal
use Rattle.sw_history.specs.Enabled.{IsNth}

pub returns-in-Some-clause-chosen : goal.returns-in-Some-clause-chosen
returns-in-Some-clause-chosen g c = nth_is_chosen c.args.net.now c.args.index c.in-Some.end (subst (IsNth c.args.net.now c.args.index) c.in-Some.is c.nth_enabled.ensures.nth)

pub returns-in-None-clause-within : goal.returns-in-None-clause-within
returns-in-None-clause-within g c = first_within c.args.net.now c.first_enabled.result c.first_enabled.ensures

pub returns-in-None-clause-chosen : goal.returns-in-None-clause-chosen
returns-in-None-clause-chosen g c = first_is_chosen c.args.net.now c.args.index (subst (IsNth c.args.net.now c.args.index) c.in-None.is c.nth_enabled.ensures.nth) c.first_enabled.result c.first_enabled.ensures
