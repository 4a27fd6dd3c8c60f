use Rattle.std.proofs.Common.{Ok, sym, ap, ◌∙◌}
use Rattle.toml.specs.View.{table_view}
use Rattle.sw_config.specs.Entries.{Declaration}
use Rattle.sw_file.proofs.Whole.{node_is, node_more}
use Rattle.sw_file.proofs.nodes.add_node.Goals as goal

pub add_node-requires-clause-new_name : goal.add_node-requires-clause-new_name
add_node-requires-clause-new_name c = c.in_ok-name.ensures.fresh

pub add_node-requires-clause-target : goal.add_node-requires-clause-target
add_node-requires-clause-target c = c.in_ok-target.ensures.valid

pub add_node-requires-clause-outstanding : goal.add_node-requires-clause-outstanding
add_node-requires-clause-outstanding c = c.in_ok-outstanding.ensures.valid

pub returns-clause-gives : goal.returns-clause-gives
returns-clause-gives c =
    node_is c.args.version c.args.index c.args.builder.now (table_view c.args.table.now) c.node_keys.result.now c.in_ok-only_known.field-0 c.in_ok-name.name.now c.in_ok-target.target c.in_ok-outstanding.outstanding
    c.node_keys.ensures c.in_ok-only_known.ensures c.in_ok-name.ensures.gives c.in_ok-target.ensures.gives c.in_ok-outstanding.ensures.gives
    ∙ ap Ok (sym c.in_ok-add_node.ensures.ok)

pub returns-clause-one_more : goal.returns-clause-one_more
returns-clause-one_more c = node_more c.args.builder.now c.add_node.new.self (record { name = c.in_ok-name.name.now; target = c.in_ok-target.target; outstanding = c.in_ok-outstanding.outstanding }) c.in_ok-add_node.ensures.ok

pub returns-clause-switches : goal.returns-clause-switches
returns-clause-switches c = ap (λ (x : Declaration). x.switches) c.in_ok-add_node.ensures.ok
