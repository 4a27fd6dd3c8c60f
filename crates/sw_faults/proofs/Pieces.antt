-- Pieces that bring what is sought.
use Rattle.std.proofs.Common.{◌≡◌, ◌∙◌, ◌++◌, ◌∷◌, ◌<◌, ◌≤◌, ℕ, Bool, true, false, [], All, List, Option, ap, drop, length, sym, take}
use Rattle.std.proofs.lemmas.List.{append_assoc}
use Rattle.std.proofs.lemmas.List.Elements.{All-push}
use Rattle.sw_text.specs.declared.keys.Section.{Section}
use Rattle.sw_text.specs.Document.{document_of}
use Rattle.sw_faults.specs.Places.{Holds, IsClosing, IsPiece, IsPlace, Reads}

-- one more bracket closes what was closed before
pub one_closes : (start before after : List ℕ) (bracket : ℕ) → (closing : List ℕ) × All IsClosing closing × (before ≡ start ++ closing)
    → after ≡ before ++ bracket ∷ [] → IsClosing bracket → (closing : List ℕ) × All IsClosing closing × (after ≡ start ++ closing)
one_closes start before after bracket (closing, all, is) adds closes = (
  closing ++ bracket ∷ [],
  All-push IsClosing closing bracket all closes,
  adds ∙ ap (λ l. l ++ bracket ∷ []) is ∙ append_assoc start closing (bracket ∷ []),
)

-- what is read with its brackets closed holds
pub reads_closed : (held : Bool) (s : Section) (key : Option (List ℕ)) (start closed read : List ℕ) →
    (closing : List ℕ) × All IsClosing closing × (closed ≡ start ++ closing) → read ≡ closed → Reads held s key read → Holds held s key start
reads_closed held s key start closed read (closing, all, is) same (document, reads, has_it) =
    (document, (closing, all, ap document_of (sym is ∙ sym same) ∙ reads), has_it)

as_piece : (p q : List ℕ) → p ≡ q → IsPiece p → IsPiece q
as_piece p q is piece = rw is at piece

-- a piece is a place of what the text has behind it and not before it
pub piece_place : (text piece : List ℕ) (s : Section) (key : Option (List ℕ)) (from to : ℕ) → piece ≡ drop from (take to text) → from < to
    → to ≤ length text → Holds false s key (take from text) → Holds true s key (take to text) → IsPiece piece → IsPlace text s key from
piece_place text piece s key from to is order within before behind piece_is =
    (to, order, within, before, behind, as_piece piece (drop from (take to text)) is piece_is)
