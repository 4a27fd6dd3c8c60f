-- Words as names, which are UTF-8.
use Rattle.std.proofs.Common.{◌≡◌, ◌∙◌, ℕ, false, List, None, Option, ap, inl, inr, refl, sym}
use Rattle.std.proofs.lemmas.Bool.{cases_Bool}
use Rattle.std.proofs.lemmas.Str.{IsUtf8-from_is_utf8, is_utf8-from_IsUtf8}
use Rattle.std.specs.Prelude.{position}
use Rattle.std.specs.Str.{IsUtf8, bytes_eq, is_utf8}
use Rattle.sw_schedule.specs.Lines.{named}

pub no_text : (bs : List ℕ) → (IsUtf8 bs → ⊥) → is_utf8 bs ≡ false
no_text bs h = elim (cases_Bool (is_utf8 bs)) [
  | inl t ↦ absurd (h (IsUtf8-from_is_utf8 bs t))
  | inr f ↦ f
]

-- what is no text is no name
pub no_name : (names : List (List ℕ)) (word : List ℕ) → (IsUtf8 word → ⊥) → None ≡ named names word
no_name names word h = sym (rw (no_text word h) refl)

-- what has this name
pub some_name : (names : List (List ℕ)) (word name : List ℕ) (found : Option ℕ) → name ≡ word → IsUtf8 word → found ≡ position (bytes_eq name) names → found ≡ named names word
some_name names word name found is valid e = e ∙ ap (λ (n : List ℕ). position (bytes_eq n) names) is ∙ sym (rw (is_utf8-from_IsUtf8 word valid) refl)
