use Rattle.std.proofs.Common.{ap, arith, get_or, length, option_map, refl, sym, ◌<◌, ◌∙◌}
use Rattle.std.specs.Prelude.{slice_get}
use Rattle.std.proofs.lemmas.Option.{slice_get_past, slice_get_read}
use Rattle.sw_load.proofs.Sends.{lent, no_packet, packet_found, row_read}
use Rattle.sw_load.proofs.senders.Senders.packet.Goals as goal
use Rattle.sw_load.specs.History.{packet_of}
use Rattle.sw_load.specs.Senders.{SendersView, places_at}

pub returns-in-None : goal.returns-in-None
returns-in-None c =
    let in_self = c.self.inside in
    let rows = in_self.places.items in
    let found = c.self.invariant in
    let n = c.args.node in
    let size = found.size in
    let nodes = ap (λ (v : SendersView). length v.declared.nodes) c.self.view_is in
    let r = c.requires in
    let inside : n < length in_self.network.now.nodes = omega arith in
    let within : n < length rows = omega arith in
    let same = c.index.ensures ∙ ap (λ k. get_or rows k c.index.result.now) c.from.ensures in
    let row = c.deref.ensures.value ∙ sym (row_read rows n c.index.result.now within same) in
    let none = ap (λ l. slice_get l c.args.before) (sym row) ∙ slice_get_past c.deref.result.now c.args.before c.in-None.ensures.lookup.3 in
    rw (← c.self.view_is) (sym (no_packet in_self.load.now (places_at rows n) _ c.args.before (found.each n inside) none))

pub returns-in-Some : goal.returns-in-Some
returns-in-Some c =
    let in_self = c.self.inside in
    let rows = in_self.places.items in
    let found = c.self.invariant in
    let n = c.args.node in
    let size = found.size in
    let nodes = ap (λ (v : SendersView). length v.declared.nodes) c.self.view_is in
    let r = c.requires in
    let inside : n < length in_self.network.now.nodes = omega arith in
    let within : n < length rows = omega arith in
    let same = c.index.ensures ∙ ap (λ k. get_or rows k c.index.result.now) c.from.ensures in
    let row = c.deref.ensures.value ∙ sym (row_read rows n c.index.result.now within same) in
    let at = c.in-Some.ensures.lookup in
    let place = c.in-Some.place.now in
    let some = ap (λ l. slice_get l c.args.before) (sym row) ∙ slice_get_read c.deref.result.now (length c.deref.result.now) c.args.before place refl at.3.0 at.1 in
    let entry = lent packet_of c.packets.result.now place c.get-in-Some.result c.get-in-Some.ensures.lookup in
    rw (← c.self.view_is) (entry ∙ ap (λ l. option_map packet_of (slice_get l place)) c.packets.ensures ∙ packet_found in_self.load.now (places_at rows n) _ c.args.before place (found.each n inside) some)
