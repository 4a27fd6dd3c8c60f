use Rattle.std.proofs.Common.{is_some, ap, ◌∙◌}
use Rattle.std.specs.Str.{bytes_eq}
use Rattle.sw_config.specs.Entries.{part_names}
use Rattle.sw_config.proofs.Positions.{position-any}
use Rattle.sw_config.proofs.builder.NetworkBuilder.has_name.Goals as goal

pub returns : goal.returns
returns c = c.is_some.ensures ∙ ap is_some c.part_named.ensures.part ∙ position-any (bytes_eq c.args.name.now) (part_names c.args.self.now)
