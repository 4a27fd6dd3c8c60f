use Rattle.std.proofs.Common.{◌≡◌, ◌∙◌, Some, ap, sym}
use Rattle.std.specs.Prelude.{slice_get}
use Rattle.sw_topo.specs.Wiring.{partner}
use Rattle.sw_linter.specs.FlowPlaces.{FlowPlace, leading_byte}
use Rattle.sw_linter.specs.Marks.{arrival_key, end_key, in_row, led_key, marked, noted, start_key, switch_at, with_command}
use Rattle.sw_linter.proofs.Noting.{read_byte}
use Rattle.sw_linter.proofs.marks.Marks.note_place.Goals as goal

pub returns : goal.returns
returns c =
    let d = c.args.network.now in
    let before = c.args.self.now in
    let channel = c.args.place.channel in
    let v : FlowPlace = record { number = c.args.number; flow = c.args.flow.now; place = c.args.place } in
    let wiring = c.topology-topology.ensures.wiring in
    let start : c.switch_at-start.result ≡ start_key d v =
    c.switch_at-start.ensures.value ∙ ap switch_at (sym c.start_of.ensures.place ∙ (λ i. slice_get (wiring i).ends channel)) in
    let end : c.switch_at-end.result ≡ end_key d v =
    c.switch_at-end.ensures.value ∙ ap switch_at (sym c.end_of.ensures.place ∙ (λ i. slice_get (wiring i).ends (partner channel))) in
    let byte : c.copied-byte.result ≡ leading_byte v =
    c.copied-byte.ensures ∙ read_byte _ c.address.result.now c.from.result c.get.result c.get.ensures.lookup.0 c.get.ensures.lookup.1 c.get.ensures.lookup.3
    ∙ (λ i. slice_get (c.address.ensures i) (c.from.ensures i)) in
    let arrival : c.in_row.result ≡ arrival_key d v = c.in_row.ensures ∙ (λ i. in_row (end i) (byte i)) in
    let led : c.in_row-2.result ≡ led_key v = c.in_row-2.ensures ∙ (λ i. in_row (Some ((c.from-2.ensures ∙ c.number.ensures) i)) (byte i)) in
    let view = c.self.view_is in
    let starts : c.mark.new.marks.items ≡ marked (start_key d v) before.starts = c.mark.ensures ∙ (λ i. marked (start i) (view i).starts) in
    let ends : c.mark-2.new.marks.items ≡ marked (end_key d v) before.ends = c.mark-2.ensures ∙ (λ i. marked (end i) (view i).ends) in
    let arrivals : c.mark-3.new.marks.items ≡ marked (arrival_key d v) before.arrivals = c.mark-3.ensures ∙ (λ i. marked (arrival i) (view i).arrivals) in
    let notes : c.note.new.notes.items ≡ noted (led_key v) c.args.number before.led = c.note.ensures ∙ (λ i. noted (led i) c.args.number (view i).led) in
    c.note_command.ensures
    ∙ (λ i. with_command d (record { starts = starts i; ends = ends i; arrivals = arrivals i; led = notes i; asking = (view i).asking; other = (view i).other }) c.args.number c.args.flow.now channel)
