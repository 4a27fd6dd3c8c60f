use Rattle.sw_app.specs.RouteAnswers.{IsRouteAnswer, IsRouteFinding, route_lines, route_status}
use Rattle.sw_engine.proofs.LineEnds.{network_file_in_lines}
use Rattle.sw_engine.proofs.Paths.{ends_by_path, file_given}
use Rattle.sw_calls.proofs.Unread.{unread_ends, unread_holds, unread_told}
use Rattle.sw_calls.proofs.files.route_file.Goals as goal

pub returns-in_default-clause-read : goal.returns-in_default-clause-read
returns-in_default-clause-read g c = unread_ends _ (IsRouteAnswer c.args.flow.now) _ _ _ c.of_unread.ensures.file c.of_unread.ensures.ended

pub returns-in_default-clause-found : goal.returns-in_default-clause-found
returns-in_default-clause-found g c = unread_holds (IsRouteFinding c.args.flow.now) _ _ c.of_unread.ensures.file

pub returns-in_default-clause-told : goal.returns-in_default-clause-told
returns-in_default-clause-told g c = unread_told _ _ _ _ _ c.of_unread.ensures.file c.of_unread.ensures.ended

pub returns-clause-read : goal.returns-clause-read
returns-clause-read g c =
    let lines = network_file_in_lines (IsRouteFinding c.args.flow.now) route_lines route_status _ _ _ _ _ c.route.ensures.ended in
    (ends_by_path _ _ _ c.in-Some.ensures (IsRouteAnswer c.args.flow.now) _ _ _ lines, file_given _ _ _ c.in-Some.ensures _ c.route.ensures.read)
