use Rattle.std.proofs.Common.{ap, sym, ◌∙◌}
use Rattle.sw_route.specs.Looks.{covers, route_look}
use Rattle.sw_route.proofs.Entries.{first_passes, none_more, none_passes}
use Rattle.sw_route.proofs.table.entry_look.Goals as goal

pub loop-route-preserved : goal.loop-route-preserved
loop-route-preserved c =
    none_more (covers c.args.address) c.args.routes.now c.loop-route.route-index c.route-item.result c.loop-route-test.true c.route-item.is
    c.loop-route.invariant (sym c.covers.ensures ∙ c.if-covers.false)

pub returns-then-covers : goal.returns-then-covers
returns-then-covers c =
    c.look.ensures
    ∙ sym (ap route_look (first_passes (covers c.args.address) c.args.routes.now c.loop-route.route-index c.route-item.result c.loop-route-test.true c.route-item.is
    c.loop-route.invariant (sym c.covers.ensures ∙ c.if-covers.true)))

pub returns : goal.returns
returns c =
    c.none.ensures ∙ sym (ap route_look (none_passes (covers c.args.address) c.args.routes.now c.loop-route.route-index c.loop-route-test.false c.loop-route.invariant))
