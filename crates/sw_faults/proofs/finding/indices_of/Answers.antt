use Rattle.std.proofs.Common.{◌∙◌, ap, map}
use Rattle.std.proofs.lemmas.List.{take_all}
use Rattle.toml.specs.View.{table_view}
use Rattle.sw_faults.specs.Finding.{places_from}
use Rattle.sw_faults.specs.Passing.{passes}
use Rattle.sw_faults.proofs.Placed.{place_left, place_taken}
use Rattle.sw_faults.proofs.finding.indices_of.Goals as goal

pub loop-place-preserved-then-not-passes : goal.loop-place-preserved-then-not-passes
loop-place-preserved-then-not-passes c =
    place_left (passes c.args.test.now) (λ t. table_view t.now) c.deref-table-items.result.now c.loop-place.place c.table-item.result c.passes.result
    c.loop-place.places.items c.loop-place-test.true c.table-item.is c.loop-place.invariant c.passes.ensures c.if-not-passes.true

pub loop-place-preserved : goal.loop-place-preserved
loop-place-preserved c =
    place_taken (passes c.args.test.now) (λ t. table_view t.now) c.deref-table-items.result.now c.loop-place.place c.table-item.result c.passes.result
    c.loop-place.places.items c.push.new.self.items c.loop-place-test.true c.table-item.is c.loop-place.invariant c.passes.ensures c.if-not-passes.false
    c.in_ok-push.ensures.items

pub returns : goal.returns
returns c =
    let all = take_all c.loop-place.place c.deref-table-items.result.now c.loop-place-test.false in
    c.loop-place.invariant
    ∙ ap (λ l. places_from (passes c.args.test.now) 0 (map (λ t. table_view t.now) l)) (all ∙ c.deref-table-items.ensures.value)
    ∙ ap (places_from (passes c.args.test.now) 0) c.in_ok-tables.ensures
