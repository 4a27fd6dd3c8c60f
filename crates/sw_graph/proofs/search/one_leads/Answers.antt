use Rattle.std.proofs.Common.{◌<◌, length, get_or, sym}
use Rattle.std.proofs.lemmas.List.{take_all}
use Rattle.std.proofs.lemmas.List.Elements.{All-get_or}
use Rattle.std.proofs.lemmas.List.Folds.{list_any_at}
use Rattle.sw_graph.specs.Rows.{row}
use Rattle.sw_graph.specs.Walks.{holds}
use Rattle.sw_graph.proofs.Places.{held_in, none_passes}
use Rattle.sw_graph.proofs.search.one_leads.Goals as goal

pub row_of-requires : goal.row_of-requires
row_of-requires c = All-get_or (λ n. n < length c.args.rows.now) c.args.from.now c.loop-c.c-index 0 c.loop-c-test.true c.requires

pub loop-c-preserved : goal.loop-c-preserved
loop-c-preserved c =
    let here = held_in (row c.args.rows.now (get_or c.args.from.now c.loop-c.c-index 0)) c.row_of.result.now c.args.d _ _ c.row_of.ensures c.contains.ensures.value c.if-contains.false in
    none_passes (λ n. holds (row c.args.rows.now n) c.args.d) c.args.from.now c.loop-c.c-index c.loop-c-test.true c.loop-c.invariant here

pub returns-then-contains : goal.returns-then-contains
returns-then-contains c =
    let here = held_in (row c.args.rows.now (get_or c.args.from.now c.loop-c.c-index 0)) c.row_of.result.now c.args.d _ _ c.row_of.ensures c.contains.ensures.value c.if-contains.true in
    sym (list_any_at (λ n. holds (row c.args.rows.now n) c.args.d) c.args.from.now c.loop-c.c-index 0 c.loop-c-test.true here)

pub returns : goal.returns
returns c = let all = rw (take_all c.loop-c.c-index c.args.from.now c.loop-c-test.false) at c.loop-c.invariant in sym all
