use Rattle.toml.specs.View.{table_view}
use Rattle.toml.specs.Errors.{IsMemory}
use Rattle.sw_text.proofs.Documents.{document_is, no_document}
use Rattle.sw_text.proofs.document.read_document.Goals as goal

pub returns-in-Ok : goal.returns-in-Ok
returns-in-Ok c = document_is c.args.bytes.now (table_view c.in-Ok.table) c.in-Ok.ensures.ok

pub returns-else-is_memory : goal.returns-else-is_memory
returns-else-is_memory c = no_document c.args.bytes.now c.is_memory.result (IsMemory c.in-Err.error) c.if-is_memory.false c.is_memory.ensures c.in-Err.ensures.refused
