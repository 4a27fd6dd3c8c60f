use Rattle.std.proofs.Common.{◌≡◌, ◌<◌, ◌∙◌, [], ℕ, All, List, Vec, Global, length, ap, sym, subst, arith}
use Rattle.sw_graph.specs.Rows.{row}
use Rattle.sw_graph.proofs.RelationSteps.{empty_rows_more}
use Rattle.sw_cycle.proofs.positions.positions_of.Goals as goal
use Rattle.sw_topo.proofs.Lists.{whole}

pub add_positions-requires-clause-inside : goal.add_positions-requires-clause-inside
add_positions-requires-clause-inside c =
    let all : c.loop.counter ≡ c.args.count = omega (arith, c.loop-test.false, c.loop.auto.counter-end) in
    let size : length c.deref_mut.result.now ≡ c.args.count = ap length c.deref_mut.ensures.value ∙ c.loop.invariant.1 ∙ all in
    subst (λ (n : ℕ). All (λ q. q < n) c.args.channels.now) (sym size) c.requires

pub add_positions-requires-clause-empty : goal.add_positions-requires-clause-empty
add_positions-requires-clause-empty c = λ q. subst (λ (rows : List (Vec ℕ Global)). row rows q ≡ []) (sym c.deref_mut.ensures.value) (c.loop.invariant.0 q)

pub returns-in-Ok-clause-size : goal.returns-in-Ok-clause-size
returns-in-Ok-clause-size c =
    let rows = c.loop.rows in
    let new = c.add_positions.new.rows in
    let size : length new ≡ length rows.items = c.add_positions.auto.rows ∙ ap length c.deref_mut.ensures.value in
    let all : c.loop.counter ≡ c.args.count = omega (arith, c.loop-test.false, c.loop.auto.counter-end) in
    rw (whole rows.len new rows.items rows.ok.0 size) (size ∙ c.loop.invariant.1 ∙ all)

pub returns-in-Ok-clause-positions : goal.returns-in-Ok-clause-positions
returns-in-Ok-clause-positions c =
    let rows = c.loop.rows in
    let new = c.add_positions.new.rows in
    let size : length new ≡ length rows.items = c.add_positions.auto.rows ∙ ap length c.deref_mut.ensures.value in
    rw (whole rows.len new rows.items rows.ok.0 size) c.in-Ok.ensures

pub loop-preserved : goal.loop-preserved
loop-preserved c = empty_rows_more c.loop.rows.items c.push.new.self.items c.new.result c.loop.counter c.loop.invariant c.new.ensures.items c.in_ok-push.ensures.items
