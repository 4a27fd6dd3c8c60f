use Rattle.std.proofs.Common.{rules, ◌≡◌, [], ◌∷◌, ◌++◌, refl, ap, map}
use Rattle.toml.specs.View.{view, table_view}
use Rattle.sw_text.specs.declared.keys.Key.TheVariants.{Switch}
use Rattle.sw_text.specs.declared.keys.Section.TheVariants.{Document}
use Rattle.sw_text.specs.Table.{tables_or_none}
use Rattle.sw_text.proofs.Walks.{each_more}
use Rattle.sw_file.specs.Tree.{merged_switch, new_switches}
use Rattle.sw_file.proofs.TableValues.{values_fail, values_done, table_more}
use Rattle.sw_file.proofs.tree.new_switches.Goals as goal

pub loop-table-init : goal.loop-table-init
loop-table-init c =
    let none : c.new-switches.result.items ≡ [] = search rules in
    ([], refl, ap (map view) none)

pub returns-in_err-switch : goal.returns-in_err-switch
unfolding new_switches
returns-in_err-switch c =
    let (done, so_far, made) = c.loop-table.invariant in
    values_fail merged_switch (λ t. table_view t.now) (tables_or_none Document Switch (table_view c.args.table.now)) c.in_ok-tables.tables.items c.deref-table-items.result.now c.in_ok-tables.ensures c.deref-table-items.ensures.value
    (λ v. map view v.items) c.loop-table.table-index done c.table-item.result c.in_err-switch.field-0.0 c.from_residual-in_err-switch.result c.from_residual-in_err-switch.ensures.1 so_far c.loop-table-test.true c.table-item.is c.in_err-switch.ensures

pub loop-table-preserved : goal.loop-table-preserved
loop-table-preserved c =
    let (done, so_far, made) = c.loop-table.invariant in (
      done ++ table_view c.in_ok-switch.switch ∷ [],
      each_more merged_switch (λ t. table_view t.now) c.deref-table-items.result.now c.loop-table.table-index done (table_view c.in_ok-switch.switch) c.table-item.result so_far c.loop-table-test.true c.table-item.is c.in_ok-switch.ensures,
      table_more done c.loop-table.switches.items c.push.new.self.items c.in_ok-switch.switch made c.in_ok-push.ensures.items,
    )

pub returns : goal.returns
unfolding new_switches
returns c =
    let (done, so_far, made) = c.loop-table.invariant in
    values_done merged_switch (λ t. table_view t.now) (tables_or_none Document Switch (table_view c.args.table.now)) c.in_ok-tables.tables.items c.deref-table-items.result.now c.in_ok-tables.ensures c.deref-table-items.ensures.value
    c.loop-table.table-index done (map view c.loop-table.switches.items) so_far made c.loop-table-test.false
