use Rattle.std.proofs.Common.{map, Ok}
use Rattle.std.proofs.lemmas.List.{map_push}
use Rattle.toml.specs.View.{table_view}
use Rattle.sw_text.specs.declared.keys.Key.TheVariants.{Route}
use Rattle.sw_text.specs.declared.keys.Section.TheVariants.{Document}
use Rattle.sw_text.specs.Table.{tables_or_none}
use Rattle.sw_text.proofs.Walks.{each_more}
use Rattle.sw_file.specs.Rows.{rows}
use Rattle.sw_file.specs.Tree.{with_tables, row_table, entry_of, merged_switch}
use Rattle.sw_file.specs.Seen.{entry_view}
use Rattle.sw_file.proofs.TableValues.{made_fails, made_done}
use Rattle.sw_file.proofs.tree.merged_switch.Goals as goal

pub returns-in_err-entry : goal.returns-in_err-entry
unfolding merged_switch
returns-in_err-entry c =
    made_fails entry_of (λ t. table_view t.now) (tables_or_none Document Route (table_view c.args.table.now)) c.in_ok-tables.tables.items c.deref-route-items.result.now c.in_ok-tables.ensures c.deref-route-items.ensures.value
    (λ es. Ok (with_tables Route (map row_table (rows es)) (table_view c.args.table.now))) (λ t. table_view t) c.loop-route.route-index (map entry_view c.loop-route.entries.items) c.route-item.result c.in_err-entry.field-0.0 c.from_residual-in_err-entry.result c.from_residual-in_err-entry.ensures.1
    c.loop-route.invariant c.loop-route-test.true c.route-item.is c.in_err-entry.ensures

pub loop-route-preserved : goal.loop-route-preserved
loop-route-preserved c = rw (c.in_ok-push.ensures.items, map_push) (each_more entry_of (λ t. table_view t.now) c.deref-route-items.result.now c.loop-route.route-index (map entry_view c.loop-route.entries.items) (entry_view c.in_ok-entry.entry) c.route-item.result c.loop-route.invariant c.loop-route-test.true c.route-item.is c.in_ok-entry.ensures)

pub returns : goal.returns
unfolding merged_switch
returns c =
    let made = made_done entry_of (λ t. table_view t.now) (tables_or_none Document Route (table_view c.args.table.now)) c.in_ok-tables.tables.items c.deref-route-items.result.now c.in_ok-tables.ensures c.deref-route-items.ensures.value
    (λ es. Ok (with_tables Route (map row_table (rows es)) (table_view c.args.table.now))) c.loop-route.route-index (map entry_view c.loop-route.entries.items) c.loop-route.invariant c.loop-route-test.false in
    rw (made, ← c.deref.ensures.value) c.merged_table.ensures
