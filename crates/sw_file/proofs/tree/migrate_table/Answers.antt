use Rattle.std.proofs.Common.{map, pos, ap, ◌∙◌}
use Rattle.std.proofs.lemmas.Result.{err_from_is_err_and}
use Rattle.toml.specs.View.{view, table_view}
use Rattle.toml.proofs.Views.{view-Integer}
use Rattle.sw_text.specs.declared.keys.Key.TheVariants.{Version}
use Rattle.sw_file.specs.Tree.{with_key}
use Rattle.sw_file.proofs.TableValues.{migrated_is, migrated_fails}
use Rattle.sw_file.proofs.tree.migrate_table.Goals as goal

pub returns-in_err-switches : goal.returns-in_err-switches
returns-in_err-switches c =
    let p = err_from_is_err_and c.from_residual.result c.from_residual.ensures.1 in
    rw (p.1, p.2) (migrated_fails (table_view c.args.document.now) c.in_err-switches.field-0.0 c.in_err-switches.ensures)

pub returns : goal.returns
returns c =
    migrated_is (table_view c.args.document.now) (table_view c.put.new.table) (table_view c.put_tables.new.table) (map view c.in_ok-switches.switches.items) c.in_ok-switches.ensures
    (c.in_ok-put.ensures ∙ ap (λ d. with_key Version d (table_view c.args.document.now)) (view-Integer (pos 2))) c.in_ok-put_tables.ensures
