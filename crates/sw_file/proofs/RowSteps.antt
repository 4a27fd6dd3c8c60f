-- Rows, one more entry after another.
use Rattle.std.proofs.Common.{◌≡◌, map, ℕ, ◌+◌, ◌<◌, ◌≤◌, true, false, List, [], ◌∷◌, ◌++◌, length, take, get_or, refl, sym, ap, ◌∙◌, append_assoc}
use Rattle.std.specs.Prelude.{fold}
use Rattle.std.proofs.lemmas.List.Sums.{fold_more}
use Rattle.std.proofs.lemmas.List.{take_all, map_push}
use Rattle.sw_file.specs.Rows.{Entry, Row, alone, goes_on, after, rows}
use Rattle.sw_file.specs.declared.rows.Row.{Row as DeclaredRow}
use Rattle.sw_file.specs.Seen.{row_view}

-- only the last row can change
pub after_last : (rs : List Row) (r : Row) (e : Entry) → after (rs ++ r ∷ []) e ≡ rs ++ after (r ∷ []) e
after_last [] r e = refl
after_last (x ∷ []) r e = refl
after_last (x ∷ y ∷ rs) r e = ap (λ l. x ∷ l) (after_last (y ∷ rs) r e)

turn : (es : List Entry) (i : ℕ) (start rs : List Row) (r : Row) (e : Entry) → rs ++ r ∷ [] ≡ fold after start (take i es) → i < length es → get_or es i e ≡ e → fold after start (take (i + 1) es) ≡ rs ++ after (r ∷ []) e
turn es i start rs r e so_far lt at = fold_more after start es i e lt ∙ rw (at, ← so_far) (after_last rs r e)

pub row_grows : (es : List Entry) (i : ℕ) (start rs : List Row) (r : Row) (e : Entry) → rs ++ r ∷ [] ≡ fold after start (take i es) → i < length es → get_or es i e ≡ e → goes_on r e ≡ true
    → rs ++ record { first = r.first; last = e.address } ∷ [] ≡ fold after start (take (i + 1) es)
row_grows es i start rs r e so_far lt at on = sym (turn es i start rs r e so_far lt at ∙ rw on refl)

pub row_ends : (es : List Entry) (i : ℕ) (start rs : List Row) (r : Row) (e : Entry) → rs ++ r ∷ [] ≡ fold after start (take i es) → i < length es → get_or es i e ≡ e → goes_on r e ≡ false
    → (rs ++ r ∷ []) ++ alone e ∷ [] ≡ fold after start (take (i + 1) es)
row_ends es i start rs r e so_far lt at off = append_assoc rs (r ∷ []) (alone e ∷ []) ∙ sym (turn es i start rs r e so_far lt at ∙ rw off refl)

-- all entries were looked at
pub rows_done : (es rest : List Entry) (first : Entry) (i : ℕ) (start : Row) (done made : List DeclaredRow) (r : DeclaredRow) → es ≡ first ∷ rest → start ≡ alone first → length rest ≤ i
    → map row_view done ++ row_view r ∷ [] ≡ fold after (start ∷ []) (take i rest) → made ≡ done ++ r ∷ [] → map row_view made ≡ rows es
rows_done es rest first i start done made r is begun past so_far pushed =
    rw (pushed, map_push) (so_far ∙ ap (fold after (start ∷ [])) (take_all i rest past) ∙ ap (λ (s : Row). fold after (s ∷ []) rest) begun ∙ ap rows (sym is))
