-- A text as a document's table.
use Rattle.std.proofs.Common.{◌≡◌, ℕ, Bool, false, List, Some, None, Ok, Err, IsTrue, ◌↔◌, refl, sym, ◌∙◌, inl, inr}
use Rattle.std.specs.Str.{IsUtf8, is_utf8}
use Rattle.std.proofs.lemmas.Str.{is_utf8-from_IsUtf8, IsUtf8-from_is_utf8}
use Rattle.std.proofs.lemmas.Bool.{cases_Bool, true≢false}
use Rattle.toml.specs.Data.{Members}
use Rattle.toml.specs.Parse.{parse_document}
use Rattle.sw_text.specs.declared.fault.TextFault.TheVariants as text
use Rattle.sw_text.specs.Document.{document_of}

pub document_is : (bytes : List ℕ) (ms : Members) → IsUtf8 bytes × (parse_document bytes ≡ Some ms) → document_of bytes ≡ Ok ms
document_is bytes ms h = rw (is_utf8-from_IsUtf8 bytes h.0, h.1) refl

pub no_document : (bytes : List ℕ) (is_memory : Bool) (M : Type 0) → is_memory ≡ false → (IsTrue is_memory ↔ M) → ((M → ⊥) → IsUtf8 bytes → parse_document bytes ≡ None) → document_of bytes ≡ Err text.Syntax
no_document bytes is_memory M other means refused =
    let no_memory : M → ⊥ = λ m. true≢false (sym (means.1 m) ∙ other) in
    elim (cases_Bool (is_utf8 bytes)) [
      | inl utf8 ↦ rw (utf8, refused no_memory (IsUtf8-from_is_utf8 bytes utf8)) refl
      | inr not_utf8 ↦ rw not_utf8 refl
    ]
