use Rattle.std.proofs.Common.{◌++◌, ◌≡◌}
use Rattle.std.specs.Vec.Iter.{into_iter_items}
use Rattle.sw_net.specs.Net.{arbiters_of}
use Rattle.sw_net.specs.New.{AreLeft, rows_of}
use Rattle.sw_net.proofs.make.new_switches.Given as goal

abbrev pub invariant-loop-w : goal.invariant-loop-w
invariant-loop-w g l = record {
  left : AreLeft g.R.Routing.answer g.A.Arbiter.ports l.network l.w (into_iter_items l.tables) (into_iter_items l.arbiters) l.switches.items;
  rows : arbiters_of l.switches.items ++ rows_of (into_iter_items l.arbiters) ≡ rows_of l.fn.rows.items;
}
