use Rattle.std.proofs.Common.{◌≡◌, ◌++◌, [], get_or, map, take}
use Rattle.std.specs.List.{flat_map, range_with_len}
use Rattle.sw_summary.specs.Counts.{items_at}
use Rattle.sw_summary.proofs.came_out.packet_keys.Given as goal

abbrev pub invariant-loop-n : goal.invariant-loop-n
invariant-loop-n l = l.all.items ≡ flat_map (λ n. items_at n (get_or (map (λ packets. packets.items) l.out) n [])) (range_with_len 0 l.n)

abbrev pub invariant-loop-packet : goal.invariant-loop-packet
invariant-loop-packet l = l.all.items ≡ l.initial.all.items ++ items_at l.n (take l.packet-index l.packet-items)
