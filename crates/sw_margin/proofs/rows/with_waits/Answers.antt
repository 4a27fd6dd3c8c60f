use Rattle.std.proofs.Common.{◌≡◌, List, Vec, Global, ℕ, length, sym, ap, ◌∙◌, subst}
use Rattle.sw_graph.specs.Rows.{IsGraph}
use Rattle.sw_graph.proofs.RelationSteps.{whole}
use Rattle.sw_margin.specs.Waits.{AreWith}
use Rattle.sw_margin.proofs.Waiting.{with_copied, with_graph}
use Rattle.sw_margin.proofs.rows.with_waits.Goals as goal

pub returns-clause-with : goal.returns-clause-with
returns-clause-with c =
    let g = c.args.rows.now in
    let copy = c.in_ok-more.more.items in
    let new = c.add_waits.new.rows in
    let size : length new ≡ length copy = c.add_waits.auto.rows ∙ ap length c.deref_mut.ensures.value in
    let e = whole c.in_ok-more.more.len new copy c.in_ok-more.more.ok.0 size in
    let added : AreWith copy c.args.waits.now new = rw c.deref_mut.ensures.value at c.in_ok-add_waits.ensures in
    subst (λ (h : List (Vec ℕ Global)). AreWith g c.args.waits.now h) (sym e) (with_copied g copy new c.args.waits.now c.in_ok-more.ensures added)

pub returns-clause-graph : goal.returns-clause-graph
returns-clause-graph c =
    let g = c.args.rows.now in
    let copy = c.in_ok-more.more.items in
    let new = c.add_waits.new.rows in
    let size : length new ≡ length copy = c.add_waits.auto.rows ∙ ap length c.deref_mut.ensures.value in
    let e = whole c.in_ok-more.more.len new copy c.in_ok-more.more.ok.0 size in
    let added : AreWith copy c.args.waits.now new = rw c.deref_mut.ensures.value at c.in_ok-add_waits.ensures in
    let more = with_copied g copy new c.args.waits.now c.in_ok-more.ensures added in
    subst (λ (h : List (Vec ℕ Global)). IsGraph h) (sym e) (with_graph g new c.args.waits.now c.requires.graph c.requires.within more)
