use Rattle.std.proofs.Common.{◌≡◌, ◌≤◌, take}
use Rattle.sw_summary.specs.Counts.{items_at}
use Rattle.sw_summary.specs.KeyCounts.{IsRising, found, taken_all}
use Rattle.sw_summary.proofs.key_counts.found_packets.Given as goal

abbrev pub invariant-loop-packet : goal.invariant-loop-packet
invariant-loop-packet l = record {
  count : l.count ≡ found l.initial.key_counts (items_at l.node (take l.packet-index l.packets));
  rest : l.key_counts ≡ taken_all l.initial.key_counts (items_at l.node (take l.packet-index l.packets));
  few : l.count ≤ l.packet-index;
  rising : IsRising l.key_counts;
}
