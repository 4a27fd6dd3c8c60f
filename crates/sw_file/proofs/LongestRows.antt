-- No row goes on with the row after it.
use Rattle.std.proofs.Common.{◌≡◌, ℕ, zero, suc, false, List, [], ◌∷◌, Some, refl, inl, inr}
use Rattle.std.specs.Prelude.{fold, slice_get}
use Rattle.std.proofs.lemmas.Bool.{cases_Bool}
use Rattle.sw_file.specs.Rows.{Entry, Row, alone, goes_on, after, rows}
use Rattle.sw_file.specs.Laws.{RowsAreLongest}

-- no row of the list goes on with the next
abbrev Longest : List Row → Type 0
Longest [] = Unit {0}
Longest (r ∷ []) = Unit {0}
Longest (r ∷ s ∷ rs) = (goes_on r s.first ≡ false) × Longest (s ∷ rs)

-- the first row keeps its first entry
record Begins (s : Row) (rs : List Row) : Type 0 where
  row : Row
  rest : List Row
  is : rs ≡ row ∷ rest
  first : row.first ≡ s.first

begins : (s : Row) (rs : List Row) (e : Entry) → Begins s (after (s ∷ rs) e)
begins s [] e =
    elim (cases_Bool (goes_on s e)) [
      | inl on ↦ rw on record { row = record { first = s.first; last = e.address }; rest = []; is = refl; first = refl }
      | inr off ↦ rw off record { row = s; rest = alone e ∷ []; is = refl; first = refl }
    ]
begins s (t ∷ rs) e = record { row = s; rest = after (t ∷ rs) e; is = refl; first = refl }

before_rest : (r s : Row) (rs : List Row) → Begins s rs → goes_on r s.first ≡ false → Longest rs → Longest (r ∷ rs)
before_rest r s rs b off rest = rw b.is ((rw b.first off), (rw b.is at rest))

keeps : (rs : List Row) (e : Entry) → Longest rs → Longest (after rs e)
keeps [] e so_far = tt
keeps (r ∷ []) e so_far =
    elim (cases_Bool (goes_on r e)) [
      | inl on ↦ rw on tt
      | inr off ↦ rw off (off, tt)
    ]
keeps (r ∷ s ∷ rs) e so_far = before_rest r s (after (s ∷ rs) e) (begins s rs e) so_far.0 (keeps (s ∷ rs) e so_far.1)

all : (rs : List Row) (es : List Entry) → Longest rs → Longest (fold after rs es)
all rs [] so_far = so_far
all rs (e ∷ es) so_far = all (after rs e) es (keeps rs e so_far)

at_place : (rs : List Row) (i : ℕ) (r s : Row) → Longest rs → slice_get rs i ≡ Some r → slice_get rs (suc i) ≡ Some s → goes_on r s.first ≡ false
at_place [] i r s longest here there = absurd cc
at_place (x ∷ []) i r s longest here there = absurd cc
at_place (x ∷ y ∷ rs) zero r s longest here there =
    let same : x ≡ r = cc in
    let next : y ≡ s = cc in
    rw (← same, ← next) longest.0
at_place (x ∷ y ∷ rs) (suc i) r s longest here there = at_place (y ∷ rs) i r s longest.1 here there

pub rows_are_longest : RowsAreLongest
rows_are_longest es i r s here there = at_place (rows es) i r s (all [] es tt) here there
