use Rattle.std.proofs.Common.{None, Some, option_map, refl}
use Rattle.toml.specs.View.{table_view, view}
use Rattle.sw_faults.proofs.Reached.{inner_by}
use Rattle.sw_faults.proofs.lookup.inner_of.Goals as goal

pub returns-in-Some : goal.returns-in-Some
returns-in-Some c =
    inner_by c.args.key c.text.result.now (option_map (λ t. table_view t.now) c.args.table) (Some (view c.in-Some.value.now)) _ c.text.ensures c.in-Some.ensures c.as_table.ensures

pub returns-in-None : goal.returns-in-None
returns-in-None c = inner_by c.args.key c.text.result.now (option_map (λ t. table_view t.now) c.args.table) None None c.text.ensures c.in-None.ensures refl
