use Rattle.std.proofs.Common.{ap, length, refl, subst, sym, ◌∙◌, ◌≡◌, ◌≤◌, ℕ}
use Rattle.std.specs.Prelude.{slice_get}
use Rattle.std.proofs.lemmas.List.{take_all}
use Rattle.sw_load.proofs.Sends.{flow_from, found_all, found_more, found_none, more_empty, read_at}
use Rattle.sw_load.proofs.Weights.{ends_at, flow_inside, row_inside}
use Rattle.sw_load.proofs.senders.Senders.new.Goals as goal
use Rattle.sw_config.specs.Entries.{all_flows}
use Rattle.sw_config.proofs.Lists.{whole}

pub loop-place-preserved : goal.loop-place-preserved
loop-place-preserved c =
    let d = c.args.network.now in
    let load = c.args.load.now in
    let i = c.loop-place.place in
    let p = c.packet-item.result in
    let rows = c.loop-place.places.items in
    let read = read_at c.packets-packet-items.result.now load i p c.packets-packet-items.ensures c.loop-place-test.true c.packet-item.is in
    let from = flow_from d p.flow c.flow-in-loop-place.result.now (ap (λ (f : ℕ). slice_get (all_flows d) f) (sym c.flow.ensures) ∙ c.flow-in-loop-place.ensures.flow) ∙ sym c.from-node.ensures in
    let size : length c.add_places.new.rows ≡ length rows = c.add_places.auto.rows ∙ ap length c.deref_mut.ensures.value in
    let e = whole c.loop-place.places.len c.add_places.new.rows rows c.loop-place.places.ok.0 size in
    let added = rw (c.deref_mut.ensures.value, c.count.ensures) at c.in_ok-add_places.ensures in
    rw e (found_more d load i p rows c.add_places.new.rows c.from-node.result read.0 read.1 from c.loop-place.invariant added)

pub loop-place-init : goal.loop-place-init
loop-place-init c = found_none c.args.network.now c.args.load.now c.loop.places.items c.loop.counter c.loop.invariant.1 c.loop.invariant.0 (ends_at c.loop.counter _ _ c.nodes-end.ensures.count c.loop-test.false c.loop.auto.counter-end)

pub returns : goal.returns
returns c = record { network = refl; load = refl }

pub invariant_of-result : goal.invariant_of-result
invariant_of-result c =
    let load = c.args.load.now in
    let entries = ap length c.packets-packet-items.ensures in
    found_all c.args.network.now load c.loop-place.place c.loop-place.places.items (take_all c.loop-place.place load (subst (λ (n : ℕ). n ≤ c.loop-place.place) entries c.loop-place-test.false)) c.loop-place.invariant

pub loop-preserved : goal.loop-preserved
loop-preserved c = more_empty c.loop.places.items c.push.new.self.items c.new.result c.loop.counter c.in_ok-push.ensures.items c.new.ensures.items c.loop.invariant

pub flow-requires-in-loop-place : goal.flow-requires-in-loop-place
flow-requires-in-loop-place c =
    flow_inside c.args.network.now c.args.load.now c.packets-packet-items.result.now c.loop-place.place c.packet-item.result c.requires c.packets-packet-items.ensures c.loop-place-test.true c.packet-item.is c.flow.result c.flow.ensures

pub add_places-requires : goal.add_places-requires
add_places-requires c =
    row_inside c.from-node.result _ _ c.loop-place.places.items c.deref_mut.result.now c.from-node.ensures c.flow-in-loop-place.ensures.valid.from c.loop-place.invariant.size c.deref_mut.ensures.value
