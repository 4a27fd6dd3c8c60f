use Rattle.sw_json.proofs.Added.{all_made, one_more}
use Rattle.sw_runs.specs.PacketValues.{packet_value}
use Rattle.sw_runs.proofs.came_out_values.packet_values.Goals as goal

pub loop-packet-preserved : goal.loop-packet-preserved
loop-packet-preserved c =
    one_more packet_value c.args.packets.now c.loop-packet.packet-index c.packet-item.result c.loop-packet.values.items c.add_value.new.values.items
    c.packet_value.result c.loop-packet.invariant c.loop-packet-test.true c.packet-item.is c.packet_value.ensures c.in_ok-add_value.ensures.added

pub returns : goal.returns
returns c = all_made packet_value c.args.packets.now c.loop-packet.packet-index c.loop-packet.values.items c.loop-packet.invariant c.loop-packet-test.false
