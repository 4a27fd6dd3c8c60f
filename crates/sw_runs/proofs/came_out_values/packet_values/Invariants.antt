use Rattle.std.proofs.Common.{◌≡◌, map, take}
use Rattle.serde_json.specs.View.{view}
use Rattle.sw_runs.specs.PacketValues.{packet_value}
use Rattle.sw_runs.proofs.came_out_values.packet_values.Given as goal

abbrev pub invariant-loop-packet : goal.invariant-loop-packet
invariant-loop-packet l = map view l.values.items ≡ map packet_value (take l.packet-index l.packets)
