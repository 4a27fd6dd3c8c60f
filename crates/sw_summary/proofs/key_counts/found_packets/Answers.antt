use Rattle.std.proofs.Common.{List, ap, arith, length, take, ℕ, ◌+◌, ◌<◌, ◌∙◌, ◌≡◌}
use Rattle.sw_char.specs.PacketView.{PacketView}
use Rattle.sw_summary.specs.Counts.{items_at}
use Rattle.sw_summary.specs.Items.{Item}
use Rattle.sw_summary.proofs.Lists.{packet_more}
use Rattle.sw_summary.proofs.Taken.{one_taken}
use Rattle.sw_summary.proofs.key_counts.found_packets.Goals as goal

pub loop-packet-preserved : goal.loop-packet-preserved
loop-packet-preserved c =
    let n = c.args.node in
    let packets = c.args.packets.now in
    let i = c.loop-packet.packet-index in
    let within : i < length packets = c.loop-packet-test.true in
    let key : Item = record { node = n; packet = record { bytes = c.as_slice.result.now; end = c.packet.inside.end } } in
    let is : key ≡ record { node = n; packet = c.packet-item.result } =
    ap (λ (l : List ℕ). record { node = n; packet = record { bytes = l; end = c.packet.inside.end } }) c.as_slice.ensures.value ∙ ap (λ (p : PacketView). record { node = n; packet = p }) c.packet.view_is
    in
    let next = packet_more n packets i c.packet-item.result key within c.packet-item.is is in
    let both = one_taken c.args.key_counts.now c.loop-packet.key_counts c.take-count.new.key_counts (items_at n (take i packets)) (items_at n (take (i + 1) packets)) key
    c.loop-packet.count c.take-count.result next c.loop-packet.invariant.count c.loop-packet.invariant.rest c.take-count.ensures.lowered c.take-count.ensures.fewer in
    let few = c.take-count.ensures.few in
    let were = c.loop-packet.invariant.few in
    record { count = both.0; rest = both.1; few = omega (arith, few, were); rising = c.take-count.ensures.rising }
