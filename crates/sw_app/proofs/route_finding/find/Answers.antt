use Rattle.std.proofs.Common.{sym}
use Rattle.sw_app.proofs.RouteFound.{flow_found, none_found}
use Rattle.sw_app.proofs.route_finding.find.Goals as goal

pub returns-in_default : goal.returns-in_default
returns-in_default c = none_found c.args.name.now c.args.network.now (sym c.in_default.ensures.number)

pub returns : goal.returns
returns c =
    flow_found c.args.name.now c.args.network.now _ c.deref.result.now (sym c.in-Some.ensures.number) c.deref.ensures.value c.in_ok-places.ensures
    c.first_fault-fault.ensures
