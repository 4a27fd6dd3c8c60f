use Rattle.std.proofs.Common.{◌≡◌, ◌≤◌, take}
use Rattle.sw_load.specs.Load.{packet_count}
use Rattle.sw_summary.specs.Counts.{loaded}
use Rattle.sw_summary.proofs.begun.count_loaded.Given as goal

abbrev pub invariant-loop-entry : goal.invariant-loop-entry
invariant-loop-entry l = record {
  sum : l.sum ≡ loaded l.flow (take l.entry-index l.load);
  few : l.sum ≤ packet_count (take l.entry-index l.load);
}
