use Rattle.std.proofs.Common.{Ok, sym, ap, ◌∙◌}
use Rattle.toml.specs.View.{table_view}
use Rattle.sw_file.proofs.Whole.{switch_is, switch_more}
use Rattle.sw_file.proofs.switches.add_switch.Goals as goal

pub add_switch-requires-clause-new_name : goal.add_switch-requires-clause-new_name
add_switch-requires-clause-new_name c = c.in_ok-name.ensures.fresh

pub returns-clause-gives : goal.returns-clause-gives
returns-clause-gives c =
    switch_is c.args.version c.args.index c.args.builder.now (table_view c.args.table.now) c.in_ok-only_known.field-0 c.in_ok-name.name.now c.in_ok-arbitration.arbitration c.in_ok-routes.routes
    c.in_ok-only_known.ensures c.in_ok-name.ensures.gives c.in_ok-arbitration.ensures c.in_ok-routes.ensures
    ∙ ap Ok (sym c.in_ok-add_switch.ensures.ok)

pub returns-clause-one_more : goal.returns-clause-one_more
returns-clause-one_more c = switch_more c.args.builder.now c.add_switch.new.self (record { name = c.in_ok-name.name.now; arbitration = c.in_ok-arbitration.arbitration; routes = c.in_ok-routes.routes }) c.in_ok-add_switch.ensures.ok
