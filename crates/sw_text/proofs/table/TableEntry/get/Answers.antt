use Rattle.std.proofs.Common.{◌∙◌, ap}
use Rattle.toml.specs.Data.{get_member}
use Rattle.toml.specs.View.{table_view}
use Rattle.toml.proofs.Views.{table_get}
use Rattle.sw_text.proofs.table.TableEntry.get.Goals as goal

pub returns : goal.returns
returns c =
    let table = c.args.self.now.table.now in
    table_get c.get.result c.text.result.now table.entries c.get.ensures.value ∙ ap (λ k. get_member k (table_view table)) c.text.ensures
