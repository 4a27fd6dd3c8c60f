use Rattle.std.proofs.Common.{arith, refl}
use Rattle.sw_mend.specs.Changes.{ports_away}
use Rattle.sw_mend.proofs.Numbered.{all_grown, grown_read}
use Rattle.sw_mend.proofs.listing.add_groups_of.Goals as goal

pub loop-entry-preserved : goal.loop-entry-preserved
loop-entry-preserved c =
    grown_read (ports_away c.args.switch) _ _ _ _ c.loop-entry.entry c.args.routes.now c.index-routes-entry.result c.loop-entry-test.true c.index-routes-entry.is c.loop-entry.invariant refl
    c.in_ok-add_group.ensures

pub returns : goal.returns
returns c =
    all_grown (ports_away c.args.switch) c.args.changes.now.items c.loop-entry.changes.items c.loop-entry.entry c.args.routes.now (omega (arith, c.loop-entry-test.false)) c.loop-entry.invariant
