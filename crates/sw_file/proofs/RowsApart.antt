-- Where no two entries are for one address, no two rows are.
use Rattle.std.proofs.Common.{◌≡◌, ℕ, suc, ◌<◌, ◌≤◌, true, false, leb, List, [], ◌∷◌, ◌++◌, map, inl, inr, ◌⊎◌, arith, append-nil, subst}
use Rattle.std.specs.Prelude.{fold}
use Rattle.std.specs.List.{AllByRecursion}
use Rattle.std.proofs.lemmas.Bool.{cases_Bool, and_cases, and_left, and_right, leb-false, lt-leb}
use Rattle.sw_route.specs.declared.look.Route.{Route}
use Rattle.sw_route.specs.Looks.{overlaps}
use Rattle.sw_file.specs.Rows.{Entry, Row, goes_on, after, rows}
use Rattle.sw_file.proofs.RowLooks.{single, row_route, goes_on_parts, Rising, after_rising}
use Rattle.sw_route.proofs.Entries.{overlaps_turned}

-- a route for some addresses
abbrev pub Straight : Route → Type 0
Straight r = r.first ≤ r.last

-- q overlaps none of these
abbrev pub FreeOf : Route → List Route → Type 0
FreeOf q rs = AllByRecursion (λ r. overlaps q r ≡ false) rs

-- no two of them overlap
abbrev pub Apart : List Route → Type 0
Apart [] = Unit {0}
Apart (q ∷ qs) = FreeOf q qs × Apart qs

pub apart_sides : (r q : Route) → overlaps r q ≡ false → (r.last < q.first) ⊎ (q.last < r.first)
apart_sides r q off =
    elim (and_cases (leb q.first r.last) (leb r.first q.last) off) [
      | inl x ↦ inl (leb-false q.first r.last x)
      | inr x ↦ inr (leb-false r.first q.last x)
    ]

pub sides_apart : (r q : Route) → (r.last < q.first) ⊎ (q.last < r.first) → overlaps r q ≡ false
sides_apart r q (inl lt) = and_left (leb q.first r.last) (leb r.first q.last) (lt-leb q.first r.last lt)
sides_apart r q (inr lt) = and_right (leb q.first r.last) (leb r.first q.last) (lt-leb r.first q.last lt)

-- what overlaps neither a range nor the address after it does not overlap the two joined
joined_sides : (first last a b : ℕ) → a ≤ b → (last < a) ⊎ (b < first) → (suc last < a) ⊎ (b < suc last) → (suc last < a) ⊎ (b < first)
joined_sides first last a b straight (inr lt) other = inr lt
joined_sides first last a b straight (inl lt) (inl far) = inl far
joined_sides first last a b straight (inl lt) (inr near) = absurd (omega arith)

pub grown_free : (r : Row) (e : Entry) (q : Route) → Straight q → goes_on r e ≡ true → overlaps (row_route r) q ≡ false → overlaps (single e) q ≡ false → overlaps (row_route (record { first = r.first; last = e.address })) q ≡ false
grown_free r e q straight on row_off entry_off =
    let at = (goes_on_parts r e on).0 in
    let second : (suc r.last < q.first) ⊎ (q.last < suc r.last) = rw at at (apart_sides (single e) q entry_off) in
    sides_apart (row_route (record { first = r.first; last = e.address })) q (rw at (joined_sides r.first.address r.last q.first q.last straight (apart_sides (row_route r) q row_off) second))

both_free : (r : Row) (e : Entry) (rest : List Route) → AllByRecursion Straight rest → goes_on r e ≡ true → FreeOf (row_route r) rest → FreeOf (single e) rest → FreeOf (row_route (record { first = r.first; last = e.address })) rest
both_free r e [] straight on rows_off entry_off = tt
both_free r e (q ∷ rest) straight on rows_off entry_off = (grown_free r e q straight.0 on rows_off.0 entry_off.0, both_free r e rest straight.1 on rows_off.1 entry_off.1)

-- what overlaps none of the rows nor the entry overlaps no row after
after_free : (q : Route) (rs : List Row) (e : Entry) (rest : List Route) → Straight q → FreeOf q (map row_route rs ++ single e ∷ rest) → FreeOf q (map row_route (after rs e) ++ rest)
after_free q [] e rest straight free = free
after_free q (r ∷ []) e rest straight free =
    elim (cases_Bool (goes_on r e)) [
      | inl on ↦ rw on (overlaps_turned (row_route (record { first = r.first; last = e.address })) q (grown_free r e q straight on (overlaps_turned q (row_route r) free.0) (overlaps_turned q (single e) free.1.0)), free.1.1)
      | inr off ↦ rw off free
    ]
after_free q (r ∷ s ∷ rs) e rest straight free = (free.0, after_free q (s ∷ rs) e rest straight free.1)

after_apart : (rs : List Row) (e : Entry) (rest : List Route) → AllByRecursion Rising rs → AllByRecursion Straight rest → Apart (map row_route rs ++ single e ∷ rest) → Apart (map row_route (after rs e) ++ rest)
after_apart [] e rest rising straight apart = apart
after_apart (r ∷ []) e rest rising straight apart =
    elim (cases_Bool (goes_on r e)) [
      | inl on ↦ rw on (both_free r e rest straight on apart.0.1 apart.1.0, apart.1.1)
      | inr off ↦ rw off apart
    ]
after_apart (r ∷ s ∷ rs) e rest rising straight apart = (after_free (row_route r) (s ∷ rs) e rest rising.0 apart.0, after_apart (s ∷ rs) e rest rising.1 straight apart.1)

singles_straight : (es : List Entry) → AllByRecursion Straight (map single es)
singles_straight [] = tt
singles_straight (e ∷ es) = ((omega arith), singles_straight es)

all_apart : (rs : List Row) (es : List Entry) → AllByRecursion Rising rs → Apart (map row_route rs ++ map single es) → Apart (map row_route (fold after rs es))
all_apart rs [] rising apart = subst Apart (append-nil (map row_route rs)) apart
all_apart rs (e ∷ es) rising apart = all_apart (after rs e) es (after_rising rs e rising) (after_apart rs e (map single es) rising (singles_straight es) apart)

pub rows_apart : (es : List Entry) → Apart (map single es) → Apart (map row_route (rows es))
rows_apart es apart = all_apart [] es tt apart
