use Rattle.std.proofs.Common.{ap, arith, length}
use Rattle.sw_journal.proofs.journal.Journal.mark.Goals as goal
use Rattle.sw_journal.specs.Record.{JournalView}

pub index-requires : goal.index-requires
index-requires c =
    let i = c.self.invariant.0 in
    let places = i.true_view.places in
    let channels = i.channels in
    let own = ap (λ (a : JournalView). length a.declared.links) c.self.view_is in
    let r = c.requires in
    let n = c.number.ensures in
    omega (arith, places, channels, own, r, n)
