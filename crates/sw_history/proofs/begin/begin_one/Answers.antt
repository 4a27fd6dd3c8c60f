use Rattle.std.proofs.Common.{Bor, Some, ap, arith, refl, subst, sym, ◌∙◌, ◌≤◌}
use Rattle.std.proofs.lemmas.Option.{slice_get-get_or}
use Rattle.std.specs.Prelude.{slice_get, slice_index}
use Rattle.sw_history.proofs.Begun.{declared_at, few_packets}
use Rattle.sw_history.proofs.Ready.{read_ready}
use Rattle.sw_history.proofs.Way.{begun_on}
use Rattle.sw_history.proofs.Within.{passes, some_within}
use Rattle.sw_history.proofs.begin.begin_one.Goals as goal
use Rattle.sw_history.specs.Noted.{within_limit}
use Rattle.sw_load.specs.History.{packet_of, packets_at, packets_of}
use Rattle.sw_load.specs.Load.{packet_count}
use Rattle.sw_load.specs.declared.load.LoadPacket.{LoadPacket}
use Rattle.sw_machine.specs.Model.{network_of}

pub begin_packet-requires : goal.begin_packet-requires
begin_packet-requires g c =
    let v = c.args.net.now in
    let load = c.args.senders.now.load in
    let counts = c.args.unanswered.now in
    let node = c.in-Some.node in
    let k = slice_index c.args.begun.now node in
    let b = packet_of c.in-Some-within_limit.packet.now in
    let room = sym (read_ready load v counts node k (λ (p : Bor LoadPacket). packet_of p.now) (Some c.in-Some-within_limit.packet) c.network.result.now c.args.senders.now c.network.ensures.network c.requires.network refl c.in-Some-within_limit.ensures) in
    let next = passes v.declared counts (slice_get (packets_at (network_of v.declared) node (packets_of load)) k) b room in
    c.in-Some.ensures.ready.1 b.flow b.cargo b.end (declared_at v.declared load c.requires.packets node k b next)

pub overflow_add-begun : goal.overflow_add-begun
overflow_add-begun g c =
    let v = c.args.net.now in
    let load = c.args.senders.now.load in
    let counts = c.args.unanswered.now in
    let node = c.in-Some.node in
    let k = slice_index c.args.begun.now node in
    let b = packet_of c.in-Some-within_limit.packet.now in
    let room = sym (read_ready load v counts node k (λ (p : Bor LoadPacket). packet_of p.now) (Some c.in-Some-within_limit.packet) c.network.result.now c.args.senders.now c.network.ensures.network c.requires.network refl c.in-Some-within_limit.ensures) in
    let next = passes v.declared counts (slice_get (packets_at (network_of v.declared) node (packets_of load)) k) b room in
    let few = few_packets v.declared load node k b next in
    let total = c.total-total.ensures.count ∙ ap packet_count c.load.ensures in
    let most = c.total-total.ensures.few in
    omega arith

pub returns-clause-begins : goal.returns-clause-begins
returns-clause-begins g c steps count way =
    let v = c.args.net.now in
    let d = v.declared in
    let load = c.args.senders.now.load in
    let counts = c.args.unanswered.now in
    let begun = c.args.begun.now in
    let node = c.in-Some.node in
    let k = slice_index begun node in
    let b = packet_of c.in-Some-within_limit.packet.now in
    let room = sym (read_ready load v counts node k (λ (p : Bor LoadPacket). packet_of p.now) (Some c.in-Some-within_limit.packet) c.network.result.now c.args.senders.now c.network.ensures.network c.requires.network refl c.in-Some-within_limit.ensures) in
    let next = passes d counts (slice_get (packets_at (network_of d) node (packets_of load)) k) b room in
    let here = declared_at d load c.requires.packets node k b next in
    let at = slice_get-get_or begun node 0 c.in-Some.ensures.within in
    let total = subst (λ n. n ≤ 65536) (c.total-total.ensures.count ∙ ap packet_count c.load.ensures) c.total-total.ensures.few in
    let valid = c.network.ensures.sound.valid in
    let inside = ap (λ j. within_limit d counts (slice_get (packets_at (network_of d) node (packets_of load)) j)) (sym (way.counted node k at)) ∙ room in
    let is = some_within d valid load c.requires.packets total steps way.state way.history counts way.unanswered node b inside in
    let made = c.in_ok-begin_packet-in-Some-within_limit.ensures.made in
    let counted = c.in_ok-begin_packet-in-Some-within_limit.ensures.counted in
    begun_on load v c.begin_packet.new.net c.begin_packet.ensures.network valid total begun counts c.begin_packet.new.unanswered node k b at here.from made counted steps count way is.0 is.1
