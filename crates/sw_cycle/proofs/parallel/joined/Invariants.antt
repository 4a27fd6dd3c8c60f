use Rattle.std.proofs.Common.{length, ◌↔◌}
use Rattle.std.specs.Prelude.{IsTrue}
use Rattle.sw_config.specs.Entries.{all_flows}
use Rattle.sw_cycle.specs.Named.{AreNamed, AreRouted}
use Rattle.sw_cycle.specs.Chunks.{chunk_start}
use Rattle.sw_cycle.proofs.parallel.joined.Given as goal

abbrev pub invariant-loop-part : goal.invariant-loop-part
invariant-loop-part l =
    AreNamed l.network 0 (chunk_start (length (all_flows l.network)) l.part-index) l.sets.items
    × (IsTrue l.is_routed ↔ AreRouted l.network 0 (chunk_start (length (all_flows l.network)) l.part-index))
