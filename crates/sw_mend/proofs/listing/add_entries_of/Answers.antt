use Rattle.std.proofs.Common.{arith, refl}
use Rattle.sw_mend.specs.Changes.{entry_away}
use Rattle.sw_mend.proofs.Numbered.{all_grown, grown_by_number}
use Rattle.sw_mend.proofs.listing.add_entries_of.Goals as goal

pub loop-entry-preserved : goal.loop-entry-preserved
loop-entry-preserved c =
    grown_by_number (entry_away c.args.switch) _ _ _ _ c.loop-entry.entry c.args.routes.now c.loop-entry-test.true c.loop-entry.invariant (λ x. refl) c.in_ok-add.ensures

pub returns : goal.returns
returns c =
    all_grown (entry_away c.args.switch) c.args.changes.now.items c.loop-entry.changes.items c.loop-entry.entry c.args.routes.now (omega (arith, c.loop-entry-test.false)) c.loop-entry.invariant
