use Rattle.std.proofs.Common.{◌≡◌, ◌++◌, [], map, string_bytes}
use Rattle.std.specs.List.{flat_map, range_with_len}
use Rattle.std.specs.Prelude.{slice_index_or}
use Rattle.sw_output.specs.ChannelTexts.{node_name}
use Rattle.sw_output.specs.PacketTexts.{by_node, node_line, undelivered_line}
use Rattle.sw_output.specs.Tallies.{counted_lines}
use Rattle.sw_output.proofs.counted_lines.sent_text.Given as goal

abbrev pub invariant-loop-n : goal.invariant-loop-n
invariant-loop-n l =
    string_bytes l.text
    ≡ (undelivered_line l.fn.undelivered ++ by_node node_line l.network (map (λ packets. packets.items) l.all))
    ++ flat_map (λ n. counted_lines (node_name l.network n) (slice_index_or (map (λ packets. packets.items) l.all) n [])) (range_with_len 0 l.n)
