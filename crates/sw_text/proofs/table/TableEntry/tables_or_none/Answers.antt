use Rattle.std.proofs.Common.{map}
use Rattle.std.proofs.lemmas.List.{map_push}
use Rattle.toml.specs.View.{view, table_view}
use Rattle.sw_text.specs.Table.{table_value}
use Rattle.sw_text.proofs.Members.{no_table, all_tables, table_is}
use Rattle.sw_text.proofs.Walks.{each_more}
use Rattle.sw_text.proofs.table.TableEntry.tables_or_none.Goals as goal

pub returns-in_default-as_table : goal.returns-in_default-as_table
returns-in_default-as_table c =
    rw c.fault-in_default-as_table.ensures (no_table c.args.self.now.section c.args.key (table_view c.args.self.now.table.now) (view c.in-Some.value.now) c.in-Some-as_array.values.now.items c.deref-value-items.result.now c.in-Some.ensures c.in-Some-as_array.ensures c.deref-value-items.ensures.value
    c.loop-value.value-index (map (λ t. table_view t.now) c.loop-value.tables.items) c.value-item.result
    c.loop-value.invariant c.loop-value-test.true c.value-item.is c.in_default-as_table.ensures)

pub loop-value-preserved : goal.loop-value-preserved
loop-value-preserved c =
    rw (c.in_ok-push.ensures.items, map_push) (each_more (table_value c.args.self.now.section c.args.key) view c.deref-value-items.result.now c.loop-value.value-index (map (λ t. table_view t.now) c.loop-value.tables.items) (table_view c.in-Some-as_table.table.now)
    c.value-item.result c.loop-value.invariant c.loop-value-test.true c.value-item.is (table_is c.args.self.now.section c.args.key (view c.value-item.result) (table_view c.in-Some-as_table.table.now) c.in-Some-as_table.ensures))

pub returns : goal.returns
returns c =
    all_tables c.args.self.now.section c.args.key (table_view c.args.self.now.table.now) (view c.in-Some.value.now) c.in-Some-as_array.values.now.items c.deref-value-items.result.now c.in-Some.ensures c.in-Some-as_array.ensures c.deref-value-items.ensures.value
    c.loop-value.value-index (map (λ t. table_view t.now) c.loop-value.tables.items)
    c.loop-value.invariant c.loop-value-test.false
