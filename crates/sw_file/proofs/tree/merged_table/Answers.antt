use Rattle.std.proofs.Common.{◌≡◌, map, Ok, sym, ap, ◌∙◌}
use Rattle.std.proofs.lemmas.List.{take_all}
use Rattle.toml.specs.Data.{table}
use Rattle.toml.specs.View.{view}
use Rattle.sw_file.specs.Rows.{rows}
use Rattle.sw_text.specs.declared.keys.Key.TheVariants.{Route}
use Rattle.sw_file.specs.Tree.{with_tables, row_table}
use Rattle.sw_file.specs.Seen.{entry_view, row_view}
use Rattle.sw_file.proofs.TableValues.{row_more}
use Rattle.sw_file.proofs.tree.merged_table.Goals as goal

pub loop-row-preserved : goal.loop-row-preserved
loop-row-preserved c = row_more row_view c.deref-row-items.result.now c.loop-row.row-index c.row-item.result c.loop-row.routes.items c.push.new.self.items c.in_ok-route.route c.loop-row-test.true c.row-item.is c.loop-row.invariant c.in_ok-push.ensures.items c.in_ok-route.ensures

pub returns-in-Ok : goal.returns-in-Ok
returns-in-Ok c =
    let all = take_all c.loop-row.row-index c.deref-row-items.result.now c.loop-row-test.false in
    let as_rows : map row_view c.deref-row-items.result.now ≡ rows (map entry_view c.args.entries.now) = rw c.deref-row-items.ensures.value c.in_ok-rows.ensures in
    let listed = map row_table (rows (map entry_view c.args.entries.now)) in
    let made : map view c.loop-row.routes.items ≡ map table (map row_table (rows (map entry_view c.args.entries.now))) = rw (all, as_rows) at c.loop-row.invariant in
    ap Ok (sym (c.in-Ok.ensures listed made ∙ ap (with_tables Route listed) c.in_ok-merged.ensures))
