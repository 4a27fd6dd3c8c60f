use Rattle.std.proofs.Common.{◌≡◌, false, string_bytes, subst, arith}
use Rattle.std.specs.Prelude.{Ok}
use Rattle.std.proofs.lemmas.Str.{IsUtf8-string_bytes}
use Rattle.toml.specs.Data.{Members}
use Rattle.toml.specs.Text.{IsDocumentText}
use Rattle.toml.specs.View.{table_view}
use Rattle.sw_text.proofs.Documents.{document_is}
use Rattle.sw_text.specs.Document.{document_of}
use Rattle.sw_app_rmap.specs.EntryTexts.{load_table}
use Rattle.sw_app_rmap.proofs.ReadBack.{are_bytes, reads_back}
use Rattle.sw_app_rmap.proofs.entry_texts.entry_text.Goals as goal

pub returns-in-Ok : goal.returns-in-Ok
returns-in-Ok c =
    let told : table_view c.in_ok-table.table ≡ load_table c.args.name.now c.args.cargo.now = c.in_ok-table.ensures in
    let document : document_of (string_bytes c.in-Ok.text) ≡ Ok (load_table c.args.name.now c.args.cargo.now) =
    rw (← c.in_ok-table.ensures) (document_is (string_bytes c.in-Ok.text) _ (IsUtf8-string_bytes c.in-Ok.text, c.in-Ok.ensures.reads_back (rw c.in_ok-table.ensures (omega arith)))) in
    record {
      is_written = subst (λ (t : Members). IsDocumentText false t (string_bytes c.in-Ok.text)) told c.in-Ok.ensures.text;
      reads_back = reads_back c.cargo_is_read.ensures c.args.network.now c.args.name.now c.args.flow c.args.cargo.now _ c.requires.named c.requires.declared (are_bytes c.args.cargo.now (λ k. omega (arith, c.type_inv.cargo k))) c.requires.few document;
    }
