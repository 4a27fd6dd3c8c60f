use Rattle.std.proofs.Common.{◌∙◌, take, ap, sym}
use Rattle.std.proofs.lemmas.List.{take-map}
use Rattle.sw_config.specs.Entries.{FlowEntry, flow_names}
use Rattle.sw_config.proofs.flow_table.FlowTable.truncate.Goals as goal

pub invariant_of-self : goal.invariant_of-self
invariant_of-self c =
    c.truncate.ensures ∙ ap (take c.args.count) c.self.invariant ∙ take-map (λ (f : FlowEntry). f.name) c.args.count c.self.inside.flows.items ∙ sym (ap flow_names c.truncate-2.ensures.items)
