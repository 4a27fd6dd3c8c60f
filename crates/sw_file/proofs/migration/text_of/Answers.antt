use Rattle.std.proofs.Common.{string_bytes}
use Rattle.std.proofs.lemmas.Str.{IsUtf8-string_bytes}
use Rattle.toml.specs.View.{table_view}
use Rattle.sw_text.proofs.Documents.{document_is}
use Rattle.sw_file.proofs.migration.text_of.Goals as goal

pub returns-in-Ok-clause-reads_back : goal.returns-in-Ok-clause-reads_back
returns-in-Ok-clause-reads_back c = rw c.into_bytes.ensures.value (document_is (string_bytes c.in-Ok.text) (table_view c.args.table.now) (IsUtf8-string_bytes c.in-Ok.text, c.in-Ok.ensures.reads_back c.requires.shallow))
