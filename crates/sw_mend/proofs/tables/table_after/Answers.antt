use Rattle.sw_mend.specs.Changes.{route_after_all}
use Rattle.sw_mend.proofs.Apart.{none_shared}
use Rattle.sw_mend.proofs.Numbered.{made_more}
use Rattle.sw_mend.proofs.tables.table_after.Goals as goal

pub add_route-requires-clause-apart : goal.add_route-requires-clause-apart
add_route-requires-clause-apart c =
    none_shared c.args.changes.now c.args.switch c.args.routes.now _ c.loop-entry.entry c.index-routes-entry.result c.requires c.loop-entry-test.true c.index-routes-entry.is
    c.loop-entry.invariant

pub loop-entry-preserved : goal.loop-entry-preserved
loop-entry-preserved c =
    made_more (route_after_all c.args.changes.now c.args.switch) _ _ c.loop-entry.entry c.args.routes.now c.index-routes-entry.result c.loop-entry-test.true c.index-routes-entry.is
    c.loop-entry.invariant c.in_ok-add_route.ensures
