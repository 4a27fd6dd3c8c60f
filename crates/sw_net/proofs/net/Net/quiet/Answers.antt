use Rattle.std.proofs.Common.{rules, subst, sym, ◌≡◌}
use Rattle.std.specs.Prelude.{is_some, not}
use Rattle.sw_net.proofs.Told.{quiet_by}
use Rattle.sw_net.proofs.net.Net.quiet.Goals as goal
use Rattle.sw_net.specs.Asked.{IsQuietNet}

pub returns : goal.returns
returns g c =
    let v = c.args.self.now in
    let same : c.is_none.result ≡ not (is_some c.first_enabled.result) = search rules in
    subst (IsQuietNet v) (sym same) (quiet_by v c.first_enabled.result c.first_enabled.ensures)
