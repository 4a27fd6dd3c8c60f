use Rattle.sw_search.proofs.Told.{is_round}
use Rattle.sw_search.proofs.tangling.tangle.Goals as goal

pub causes-requires-clause-cycle : goal.causes-requires-clause-cycle
causes-requires-clause-cycle c = rw (c.deref-2.ensures.value, c.in_ok-channels.ensures, c.deref.ensures.value) (is_round c.args.network.now c.args.component.now.cycle.items c.requires.component.shortest.closed)
