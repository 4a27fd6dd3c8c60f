use Rattle.std.proofs.Common.{◌∙◌, None, Some, ap, option_map, refl}
use Rattle.std.specs.Option.{option_and_then}
use Rattle.toml.specs.Data.{as_table}
use Rattle.toml.specs.View.{table_view, view}
use Rattle.sw_faults.proofs.Reached.{entry_by}
use Rattle.sw_faults.proofs.lookup.entry_of.Goals as goal

pub returns-in_default : goal.returns-in_default
returns-in_default c =
    entry_by c.args.key c.args.number c.text.result.now (option_map (λ t. table_view t.now) c.args.table) None None c.text.ensures c.in_default.ensures refl

pub returns-in-None : goal.returns-in-None
returns-in-None c =
    entry_by c.args.key c.args.number c.text.result.now (option_map (λ t. table_view t.now) c.args.table) (Some (view c.in-Some.list.now)) None c.text.ensures
    c.in-Some.ensures (ap (option_and_then as_table) c.in-None.ensures)

pub returns-in-Some-get : goal.returns-in-Some-get
returns-in-Some-get c =
    entry_by c.args.key c.args.number c.text.result.now (option_map (λ t. table_view t.now) c.args.table) (Some (view c.in-Some.list.now)) _ c.text.ensures
    c.in-Some.ensures (c.as_table.ensures ∙ ap (option_and_then as_table) c.in-Some-get.ensures)
