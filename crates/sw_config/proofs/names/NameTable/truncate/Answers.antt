use Rattle.std.proofs.Common.{◌∙◌, string_bytes, map, ap, sym}
use Rattle.std.proofs.lemmas.List.{take-map}
use Rattle.sw_config.proofs.names.NameTable.truncate.Goals as goal

pub returns : goal.returns
returns c =
    rw (← c.self.view_is) (ap (map string_bytes) c.truncate.ensures.keys ∙ sym (take-map string_bytes c.args.count c.self.inside.names.keys))
