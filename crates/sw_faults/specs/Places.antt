-- Where a table or a key stands in a text: where the piece begins that brings it into the document.
use Rattle.std.specs.Prelude.{◌≡◌, ◌⊎◌, ◌<◌, ◌≤◌, ℕ, Bool, true, false, All, List, [], ◌∷◌, ◌++◌, length, take, drop, Option, Some, None, is_some, Ok}
use Rattle.toml.specs.Data.{Members}
use Rattle.sw_text.specs.declared.keys.Section.{Section}
use Rattle.sw_faults.specs.Lookup.{table_of, value_of}
use Rattle.sw_text.specs.Document.{document_of}

-- a bracket that closes a list or a table
abbrev pub IsClosing : ℕ → Type 0
IsClosing b = (b ≡ 93) ⊎ (b ≡ 125)

-- the beginning of a text, closed by brackets, is this document
abbrev pub ReadsAs : List ℕ → Members → Type 0
ReadsAs beginning document = (closing : List ℕ) × All IsClosing closing × (document_of (beginning ++ closing) ≡ Ok document)

-- the document has the table, or something at the key of it
abbrev pub has : Section → Option (List ℕ) → Members → Bool
has section None document = is_some (table_of section document)
has section (Some key) document = is_some (value_of section key document)

-- a text is a document that has it, or does not
abbrev pub Reads : Bool → Section → Option (List ℕ) → List ℕ → Type 0
Reads held section key text = (document : Members) × (document_of text ≡ Ok document) × (has section key document ≡ held)

-- the beginning of a text has it, or does not
abbrev pub Holds : Bool → Section → Option (List ℕ) → List ℕ → Type 0
Holds held section key beginning = (document : Members) × ReadsAs beginning document × (has section key document ≡ held)

-- a brace that opens a table, or statements of a document
abbrev pub IsPiece : List ℕ → Type 0
IsPiece piece = (piece ≡ 123 ∷ []) ⊎ ((document : Members) × (document_of piece ≡ Ok document))

-- at this offset a piece begins, before which the text does not have the table or the key, and behind which it does
abbrev pub IsPlace : List ℕ → Section → Option (List ℕ) → ℕ → Type 0
IsPlace text section key offset =
    (end : ℕ) × (offset < end) × (end ≤ length text) × Holds false section key (take offset text) × Holds true section key (take end text)
    × IsPiece (drop offset (take end text))
