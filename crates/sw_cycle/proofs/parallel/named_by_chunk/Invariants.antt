use Rattle.std.proofs.Common.{◌≤◌, ◌↔◌}
use Rattle.std.specs.Prelude.{IsTrue}
use Rattle.sw_cycle.specs.Named.{AreNamed, AreRouted}
use Rattle.sw_cycle.proofs.parallel.named_by_chunk.Given as goal

abbrev pub invariant-loop-number : goal.invariant-loop-number
invariant-loop-number l = record {
  from : l.low ≤ l.number;
  named : AreNamed l.network l.low l.number l.sets.items;
  routed : IsTrue l.is_routed ↔ AreRouted l.network l.low l.number;
}
