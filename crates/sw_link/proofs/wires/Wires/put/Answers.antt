use Rattle.std.proofs.Common.{[], ◌++◌, ◌<◌, ◌∷◌, ◌≡◌, ap, sym, ◌∙◌, length, arith}
use Rattle.std.proofs.lemmas.List.{length-map, get_or-map}
use Rattle.std.proofs.lemmas.List.Elements.{All-get_or}
use Rattle.circular_buffer.specs.Buffer.{Buffer}
use Rattle.sw_link.proofs.Rings.{ring_set, on_ok}
use Rattle.sw_link.proofs.wires.Wires.put.Goals as goal
use Rattle.sw_link.specs.Between.{Between, between_of}

pub returns : goal.returns
returns c =
    let w = c.self.inside in
    let ring = c.index_mut.result.now in
    let n = ap (λ (b : Between). length b.wires) c.self.view_is in
    let m = length-map w.rings.items (λ q. q.items) in
    let lt : c.number.result < length w.rings.items = omega arith in
    let capacity : ring.capacity ≡ 56 = ap (λ (q : Buffer _). q.capacity) c.index_mut.ensures.value ∙ All-get_or (λ q. q.capacity ≡ 56) w.rings.items c.number.result ring lt c.self.invariant.0 in
    let here = get_or-map (λ q. q.items) w.rings.items c.number.result ring [] lt in
    let same = ap length (ap (λ (q : Buffer _). q.items) c.index_mut.ensures.value ∙ sym here) in
    let few = rw (← c.self.view_is, ← c.number.ensures) at c.requires.room in
    let room : length ring.items < 56 = omega arith in
    let pushed = on_ok c.try_push_back.result _ (c.try_push_back.ensures.variant.1 (omega arith)) c.try_push_back.ensures.ok in
    let e = ring_set (λ l. l ++ c.args.character ∷ []) w.rings.items c.number.result ring c.try_push_back.new.self lt c.index_mut.ensures.value (ap (λ b. b.items) pushed) in
    let h = ap (λ l. between_of l w.fcts.items) e in
    rw (← c.self.view_is, ← c.number.ensures) h
