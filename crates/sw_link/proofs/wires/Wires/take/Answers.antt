use Rattle.std.proofs.Common.{◌<◌, ap, drop, length, arith}
use Rattle.std.proofs.lemmas.List.{length-map}
use Rattle.sw_link.proofs.Rings.{ring_set}
use Rattle.sw_link.proofs.wires.Wires.take.Goals as goal
use Rattle.sw_link.specs.Between.{Between, between_of}

pub returns-clause-after : goal.returns-clause-after
returns-clause-after c =
    let w = c.self.inside in
    let n = ap (λ (b : Between). length b.wires) c.self.view_is in
    let m = length-map w.rings.items (λ q. q.items) in
    let lt : c.number.result < length w.rings.items = omega arith in
    let e = ring_set (drop 1) w.rings.items c.number.result c.index_mut.result.now c.pop_front.new.self lt c.index_mut.ensures.value (ap (λ b. b.items) c.pop_front.ensures.items) in
    let h = ap (λ l. between_of l w.fcts.items) e in
    rw (← c.self.view_is, ← c.number.ensures) h
