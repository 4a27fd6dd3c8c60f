use Rattle.std.proofs.Common.{drop, length, ℕ, ◌≡◌, Option, Some}
use Rattle.std.specs.Global.{Vec}
use Rattle.std.specs.Prelude.{slice_get}
use Rattle.std.specs.Vec.Iter.{into_iter_items}
use Rattle.sw_flow.specs.Places.{ends_of}
use Rattle.sw_net.specs.New.{AreArbiters, ArePlaced, IsRow, rows_of}
use Rattle.sw_net.proofs.make.place_arbiters.Given as goal

abbrev pub invariant-loop-number : goal.invariant-loop-number
invariant-loop-number g l = record {
  all : length l.rows.items ≡ length l.network.switches;
  arbiters : AreArbiters g.A.Arbiter.ports l.network (drop l.number (ends_of l.network)) (into_iter_items l.rest);
  each : (w : ℕ) (row : Vec (Option g.row.A.Denot)) → slice_get l.rows.items w ≡ Some row → IsRow g.A.Arbiter.ports l.network l.number w row.items;
  placed : ArePlaced l.network l.number l.fn.arbiters.items (into_iter_items l.rest) (rows_of l.rows.items);
}
