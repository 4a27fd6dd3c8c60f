use Rattle.std.proofs.Common.{is_some, ap, ◌∙◌}
use Rattle.std.specs.Str.{bytes_eq}
use Rattle.sw_config.specs.Entries.{flow_names}
use Rattle.sw_config.proofs.Positions.{position-any}
use Rattle.sw_config.proofs.network.Network.has_flow_name.Goals as goal

pub returns : goal.returns
returns c = c.is_some.ensures ∙ ap is_some c.declared_flow_named.ensures.number ∙ position-any (bytes_eq c.args.name.now) (flow_names c.args.self.now.flows)
