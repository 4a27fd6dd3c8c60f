use Rattle.std.proofs.Common.{◌∙◌, string_bytes}
use Rattle.std.specs.Str.{bytes_eq}
use Rattle.sw_config.proofs.Texts.{position-map}
use Rattle.sw_config.proofs.names.NameTable.index_of.Goals as goal

pub returns-clause-place : goal.returns-clause-place
returns-clause-place c = rw (← c.self.view_is) (c.get_index_of.ensures.index ∙ position-map string_bytes (bytes_eq c.args.name.now) c.self.inside.names.keys)
