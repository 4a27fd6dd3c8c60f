use Rattle.std.proofs.Common.{List, Ok, ap, ◌∙◌, sym, ℕ}
use Rattle.sw_app_rmap.specs.Packets.{FlowPacket}
use Rattle.sw_app_rmap.proofs.Asked.{is_loadable}
use Rattle.sw_app_rmap.proofs.rmap_finding.find.Goals as goal

abbrev packet : ℕ → List ℕ → FlowPacket
packet flow cargo = record { flow = flow; cargo = cargo }

pub entry_text-requires-clause-named : goal.entry_text-requires-clause-named
entry_text-requires-clause-named c =
    (is_loadable c.args.network.now c.args.request.now (packet c.packet.inside.flow c.packet.inside.cargo.items) c.flows-flows.ensures.valid (c.in-Ok.ensures ∙ ap Ok (sym c.packet.view_is))).named

pub entry_text-requires-clause-declared : goal.entry_text-requires-clause-declared
entry_text-requires-clause-declared c =
    let cargo = c.deref.result.now in
    let made = c.in-Ok.ensures ∙ ap Ok (sym c.packet.view_is) ∙ ap (λ l. Ok (packet c.packet.inside.flow l)) (sym c.deref.ensures.value) in
    (is_loadable c.args.network.now c.args.request.now (packet c.packet.inside.flow cargo) c.flows-flows.ensures.valid made).declared

pub entry_text-requires-clause-few : goal.entry_text-requires-clause-few
entry_text-requires-clause-few c =
    let cargo = c.deref.result.now in
    let made = c.in-Ok.ensures ∙ ap Ok (sym c.packet.view_is) ∙ ap (λ l. Ok (packet c.packet.inside.flow l)) (sym c.deref.ensures.value) in
    (is_loadable c.args.network.now c.args.request.now (packet c.packet.inside.flow cargo) c.flows-flows.ensures.valid made).few
