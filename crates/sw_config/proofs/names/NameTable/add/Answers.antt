use Rattle.sw_config.proofs.Texts.{text_inserted}
use Rattle.sw_config.proofs.names.NameTable.add.Goals as goal

pub returns-clause-names : goal.returns-clause-names
returns-clause-names g c =
    λ text told.
    text_inserted c.args.name c.in-Ok.name c.self.inside.names.keys c.insert.new.self.keys text c.args.self.now c.in-Ok.is told c.requires c.self.view_is c.in_ok-insert.ensures.keys
