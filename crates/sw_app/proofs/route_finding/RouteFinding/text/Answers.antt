use Rattle.sw_app.proofs.PlaceChannels.{route_within}
use Rattle.sw_app.proofs.route_finding.RouteFinding.text.Goals as goal

pub route_text-requires-clause-places : goal.route_text-requires-clause-places
route_text-requires-clause-places c =
    route_within c.args.network.now c.in-Found.route c.deref.result.now (rw c.in-Found.is at c.requires) c.deref.ensures.value
