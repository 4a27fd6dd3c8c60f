use Rattle.std.proofs.Common.{[], sym, ap, ◌∙◌}
use Rattle.toml.specs.View.{table_view}
use Rattle.sw_text.specs.declared.keys.Key.TheVariants.{Route}
use Rattle.sw_text.specs.declared.keys.Section.{Section}
use Rattle.sw_text.specs.declared.keys.Section.TheVariants as section
use Rattle.sw_text.specs.Table.{tables_or_none}
use Rattle.sw_text.proofs.Walks.{walk_more}
use Rattle.sw_file.specs.Switches.{next_route, routes_at}
use Rattle.sw_file.proofs.Listed.{list_fails, list_done}
use Rattle.sw_file.proofs.switches.routes_at.Goals as goal

pub loop-i-preserved : goal.loop-i-preserved
loop-i-preserved c = walk_more (next_route c.args.version c.args.index) (λ t. table_view t.now) [] c.deref-table-items.result.now c.loop-i.i c.loop-i.routes c.add_route.new.routes c.table-item.result c.loop-i.invariant c.loop-i-test.true c.table-item.is c.in_ok-add_route.ensures

pub returns-in_err-add_route : goal.returns-in_err-add_route
unfolding routes_at
returns-in_err-add_route c =
    list_fails (next_route c.args.version c.args.index) (λ t. table_view t.now) (tables_or_none (section.Switch c.args.index) Route (table_view c.args.switch.now.table.now)) c.in_ok-tables.tables.items c.deref-table-items.result.now
    (ap (λ (s : Section). tables_or_none s Route (table_view c.args.switch.now.table.now)) (sym c.requires) ∙ c.in_ok-tables.ensures) c.deref-table-items.ensures.value
    (λ t. t) [] c.loop-i.i c.loop-i.routes c.table-item.result c.in_err-add_route.field-0.0 c.from_residual-in_err-add_route.result c.from_residual-in_err-add_route.ensures.1 c.loop-i.invariant c.loop-i-test.true c.table-item.is c.in_err-add_route.ensures

pub returns : goal.returns
unfolding routes_at
returns c =
    list_done (next_route c.args.version c.args.index) (λ t. table_view t.now) (tables_or_none (section.Switch c.args.index) Route (table_view c.args.switch.now.table.now)) c.in_ok-tables.tables.items c.deref-table-items.result.now
    (ap (λ (s : Section). tables_or_none s Route (table_view c.args.switch.now.table.now)) (sym c.requires) ∙ c.in_ok-tables.ensures) c.deref-table-items.ensures.value
    [] c.loop-i.i c.loop-i.routes c.loop-i.invariant c.loop-i-test.false
