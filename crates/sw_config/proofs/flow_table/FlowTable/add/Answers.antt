use Rattle.sw_config.specs.Entries.{flow_names}
use Rattle.sw_config.proofs.Flows.{named_flows}
use Rattle.sw_config.proofs.Texts.{new_key}
use Rattle.sw_config.proofs.flow_table.FlowTable.add.Goals as goal

pub add-requires : goal.add-requires
add-requires c =
    new_key c.from_str-name.result c.name.result.now c.args.flow.name c.self.inside.names (flow_names c.self.inside.flows.items) c.from_str-name.ensures.ok c.name.ensures c.self.invariant
    (rw (← c.self.view_is) at c.requires)

pub invariant_of-self : goal.invariant_of-self
invariant_of-self c =
    named_flows c.add.result c.self.inside.names c.add.new.self c.self.inside.flows.items c.add.new.all.items c.args.flow c.name.result.now c.self.invariant c.name.ensures
    (c.add.ensures.names c.name.result.now c.from_str-name.ensures.ok) c.add.ensures.names_kept c.add.ensures.all c.add.ensures.all_kept
