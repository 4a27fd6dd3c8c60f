use Rattle.std.proofs.Common.{◌∙◌, ap, length}
use Rattle.sw_config.specs.Entries.{Declaration}
use Rattle.sw_mend.proofs.MoreSlots.{as_many, still_target}
use Rattle.sw_mend.proofs.limiting.network_limited.Goals as goal

pub add_limited_flows-requires-clause-nodes : goal.add_limited_flows-requires-clause-nodes
add_limited_flows-requires-clause-nodes c = ap (λ (d : Declaration). length d.nodes) c.in_ok-built.ensures ∙ as_many c.args.slots.now 0 c.args.network.now.nodes

pub add_limited_flows-requires-clause-targets : goal.add_limited_flows-requires-clause-targets
add_limited_flows-requires-clause-targets c = λ n is. rw c.in_ok-built.ensures (still_target c.args.slots.now 0 c.args.network.now.nodes n is)
