use Rattle.std.proofs.Common.{arith}
use Rattle.sw_run.proofs.laws.accepted_is_not_full.Goals as goal

pub returns : goal.returns
returns c = λ d cert valid acc load limit o is enough full.
    let a = c.accepted_histories_end.ensures _ cert (c.declared_networks_are_networks.ensures d valid) acc _ _ is.state is.history in
    let b = (is.full full).0 in
    omega arith
