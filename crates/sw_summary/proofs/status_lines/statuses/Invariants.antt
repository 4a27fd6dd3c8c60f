use Rattle.std.proofs.Common.{◌≡◌, ◌++◌, take}
use Rattle.std.specs.List.{flat_map}
use Rattle.sw_summary.specs.Counts.{statuses_of}
use Rattle.sw_summary.proofs.status_lines.statuses.Given as goal

abbrev pub invariant-loop-packets : goal.invariant-loop-packets
invariant-loop-packets l = l.all.items ≡ flat_map (λ packets. statuses_of packets.items) (take l.packets-index l.out)

abbrev pub invariant-loop-packet : goal.invariant-loop-packet
invariant-loop-packet l = l.all.items ≡ l.initial.all.items ++ statuses_of (take l.packet-index l.packet-items)
