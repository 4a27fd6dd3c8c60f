use Rattle.std.proofs.Common.{◌≡◌, ◌<◌, ◌∙◌, ℕ, ap, get_or, length, subst, sym, arith}
use Rattle.std.specs.Prelude.{slice_index}
use Rattle.std.proofs.lemmas.Grind.{get_or_default_zero}
use Rattle.sw_topo.specs.Wiring.{Wiring}
use Rattle.sw_flow.specs.Places.{ends_of}
use Rattle.sw_cycle.specs.Rows.{AreRows}
use Rattle.sw_cycle.proofs.Bridge as bridge
use Rattle.sw_cycle.proofs.Rowing.{row_is, rows_more, rows_none, rows_once}
use Rattle.sw_cycle.proofs.dependency_rows.rows_from.Goals as goal

pub row_of-requires : goal.row_of-requires
row_of-requires c =
    let within : c.loop-channel.channel < length (ends_of c.args.network.now) = subst (λ (n : ℕ). c.loop-channel.channel < n) c.channels-channel-end.ensures.ends c.loop-channel-test.true in
    let there = subst (λ (w : Wiring). c.loop-channel.channel < length w.ends) (sym c.topology.ensures.wiring) within in
    subst (λ (n : ℕ). n < length c.topology.result.now.ends) (sym c.new.ensures) there

pub bounds-sets-from : goal.bounds-sets-from
bounds-sets-from c =
    let sets = c.args.sets.now in
    let within : c.loop-channel.channel < length (ends_of c.args.network.now) = subst (λ (n : ℕ). c.loop-channel.channel < n) c.channels-channel-end.ensures.ends c.loop-channel-test.true in
    let inside = subst (λ (n : ℕ). c.loop-channel.channel < n) (sym c.requires.size) within in
    subst (λ (n : ℕ). n < length sets) (sym c.from.ensures) inside

pub loop-channel-init : goal.loop-channel-init
loop-channel-init c = rw c.new-rows.ensures.items (rows_none c.args.network.now c.args.sets.now c.in_ok-marks.marks.items)

pub loop-channel-preserved : goal.loop-channel-preserved
loop-channel-preserved c =
    let d = c.args.network.now in
    let sets = c.args.sets.now in
    let marks = c.in_ok-marks.marks.items in
    let n = c.loop-channel.channel in
    let set = c.index-sets-from.result in
    let at : set ≡ slice_index sets n = c.index-sets-from.is ∙ ap (λ i. get_or sets i set) c.from.ensures ∙ get_or_default_zero sets n set (omega arith) in
    let made = rw c.deref.ensures.value at c.in_ok-row_of.ensures in
    let row = row_is d sets marks n set c.new.result c.topology.result.now c.in_ok-row_of.field-0.items c.topology.ensures.wiring c.new.ensures at made in
    rw c.in_ok-push.ensures.items (rows_more d sets marks n c.loop-channel.rows.items c.in_ok-row_of.field-0 c.loop-channel.invariant row)

pub returns-clause-size : goal.returns-clause-size
returns-clause-size c = c.loop-channel.invariant.size ∙ omega (arith, c.loop-channel-test.false, c.loop-channel.auto.channel-end, c.channels-channel-end.ensures.ends)

pub returns-clause-exact : goal.returns-clause-exact
returns-clause-exact c =
    let d = c.args.network.now in
    let marks = c.in_ok-marks.marks.items in
    let all : c.loop-channel.channel ≡ length (ends_of d) = omega (arith, c.loop-channel-test.false, c.loop-channel.auto.channel-end, c.channels-channel-end.ensures.ends) in
    let rows = subst (λ (n : ℕ). AreRows d c.args.sets.now marks n c.loop-channel.rows.items) all c.loop-channel.invariant in
    bridge.exact d c.topology-topology.ensures.valid c.args.sets.now marks c.requires c.in_ok-marks.ensures c.loop-channel.rows.items rows

pub returns-clause-graph : goal.returns-clause-graph
returns-clause-graph c =
    let d = c.args.network.now in
    let marks = c.in_ok-marks.marks.items in
    let all : c.loop-channel.channel ≡ length (ends_of d) = omega (arith, c.loop-channel-test.false, c.loop-channel.auto.channel-end, c.channels-channel-end.ensures.ends) in
    let rows = subst (λ (n : ℕ). AreRows d c.args.sets.now marks n c.loop-channel.rows.items) all c.loop-channel.invariant in
    bridge.graph d c.topology-topology.ensures.valid c.args.sets.now marks c.requires c.in_ok-marks.ensures c.loop-channel.rows.items rows

pub returns-clause-once : goal.returns-clause-once
returns-clause-once c = rows_once c.args.network.now c.args.sets.now c.in_ok-marks.marks.items c.loop-channel.channel c.loop-channel.rows.items c.loop-channel.invariant
