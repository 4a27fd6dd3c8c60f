use Rattle.std.proofs.Common.{nat_lt, subst}
use Rattle.std.proofs.lemmas.Bool.{lt-ltb, ltb-true}
use Rattle.sw_net.specs.Asked.{IsQuietNet}
use Rattle.sw_schedule.proofs.NetReports.{locked, loose}
use Rattle.sw_schedule.proofs.replay_report.is_locked_up.Goals as goal

pub returns-then-quiet : goal.returns-then-quiet
returns-then-quiet c =
    let v = c.args.net.now in
    let none = subst (IsQuietNet v) c.if-quiet.true c.quiet.ensures in
    locked v (nat_lt 0 c.args.remaining) c.args.remaining (λ t. ltb-true 0 c.args.remaining t, λ lt. lt-ltb 0 c.args.remaining lt) c.requires none

pub returns-else-quiet : goal.returns-else-quiet
returns-else-quiet c = loose c.args.net.now c.quiet.result c.if-quiet.false c.quiet.ensures
