use Rattle.std.proofs.Common.{◌≡◌, [], map}
use Rattle.std.specs.List.{range_with_len}
use Rattle.std.specs.Prelude.{slice_index_or}
use Rattle.serde_json.specs.View.{view}
use Rattle.sw_output.specs.ChannelTexts.{node_name}
use Rattle.sw_runs.specs.PacketValues.{node_value}
use Rattle.sw_runs.proofs.came_out_values.node_values.Given as goal

abbrev pub invariant-loop-n : goal.invariant-loop-n
invariant-loop-n l = map view l.values.items ≡
    map (λ n. node_value (node_name l.network n) (slice_index_or (map (λ packets. packets.items) l.all) n [])) (range_with_len 0 l.n)
