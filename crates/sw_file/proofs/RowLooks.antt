-- What rows come to as entries of a routing table: each byte names the same as by the entries alone.
use Rattle.std.proofs.Common.{◌≡◌, ℕ, suc, ◌<◌, ◌≤◌, Bool, true, false, leb, List, [], ◌∷◌, ◌++◌, map, refl, sym, ap, ◌∙◌, inl, inr, arith, append-nil}
use Rattle.std.specs.Prelude.{find, fold}
use Rattle.std.specs.Bool.{beq}
use Rattle.std.specs.List.{AllByRecursion}
use Rattle.std.specs.Str.{bytes_eq}
use Rattle.std.proofs.lemmas.Bool.{cases_Bool, cases_lt, cases_eq, and_parts, and_right, le-leb, lt-leb, eqb-true}
use Rattle.std.proofs.lemmas.Slice.Eq.{bytes_eq-Decides}
use Rattle.sw_topo.specs.Ports.{port_set}
use Rattle.sw_route.specs.declared.look.Look.{Look}
use Rattle.sw_route.specs.declared.look.Route.{Route}
use Rattle.sw_route.specs.Looks.{entry, covers, route_look}
use Rattle.sw_file.specs.Rows.{Entry, Row, goes_on, after, rows}

-- an entry of version 1, and a row, as the routing table has them
abbrev pub single : Entry → Route
single e = entry e.address e.address (port_set e.ports) e.delete

abbrev pub row_route : Row → Route
row_route r = entry r.first.address r.last (port_set r.first.ports) r.first.delete

beq-true : (a b : Bool) → beq a b ≡ true → a ≡ b
beq-true true true same = refl
beq-true true false same = absurd cc
beq-true false true same = absurd cc
beq-true false false same = refl

pub goes_on_parts : (r : Row) (e : Entry) → goes_on r e ≡ true → (e.address ≡ suc r.last) × (e.ports ≡ r.first.ports) × (e.delete ≡ r.first.delete)
goes_on_parts r e on =
    let outer = and_parts _ (beq e.delete r.first.delete) on in
    let inner = and_parts _ (bytes_eq e.ports r.first.ports) outer.0 in
    (eqb-true e.address (suc r.last) inner.0, (bytes_eq-Decides e.ports r.first.ports).0 inner.1, beq-true e.delete r.first.delete outer.1)

abbrev pub Rising : Row → Type 0
Rising r = r.first.address ≤ r.last

-- the answer of a routing table to an address
abbrev pub answer : ℕ → List Route → Look
answer a rs = route_look (find (covers a) rs)

inside : (first last ports a : ℕ) (delete : Bool) → first ≤ a → a ≤ last → covers a (entry first last ports delete) ≡ true
inside first last ports a delete low high = rw (le-leb first a low, le-leb a last high) refl

below : (first last ports a : ℕ) (delete : Bool) → a < first → covers a (entry first last ports delete) ≡ false
below first last ports a delete lt = rw (lt-leb first a lt) refl

above : (first last ports a : ℕ) (delete : Bool) → last < a → covers a (entry first last ports delete) ≡ false
above first last ports a delete lt = and_right (leb first a) (leb a last) (lt-leb a last lt)

then_same : (a : ℕ) (r : Route) (xs ys : List Route) → answer a xs ≡ answer a ys → answer a (r ∷ xs) ≡ answer a (r ∷ ys)
then_same a r xs ys same =
    elim (cases_Bool (covers a r)) [
      | inl here ↦ rw here refl
      | inr further ↦ rw further same
    ]

-- one range answers as a shorter one and the address after it
joined : (first last ports a : ℕ) (delete : Bool) (rest : List Route) → first ≤ last
    → answer a (entry first (suc last) ports delete ∷ rest) ≡ answer a (entry first last ports delete ∷ entry (suc last) (suc last) ports delete ∷ rest)
joined first last ports a delete rest rising =
    elim (cases_lt a first) [
      | inl low ↦ rw (below first (suc last) ports a delete low, below first last ports a delete low, below (suc last) (suc last) ports a delete (omega arith)) refl
      | inr from ↦ elim (cases_lt last a) [
        | inr within ↦ rw (inside first (suc last) ports a delete from (omega arith), inside first last ports a delete from within) refl
        | inl past ↦ elim (cases_eq a (suc last)) [
          | inl at ↦ rw (inside first (suc last) ports a delete from (omega arith), above first last ports a delete past, inside (suc last) (suc last) ports a delete (omega arith) (omega arith)) refl
          | inr off ↦
              let far : suc last < a = elim (cases_lt (suc last) a) [
                | inl lt ↦ lt
                | inr le ↦ absurd (off (omega arith))
              ] in
              rw (above first (suc last) ports a delete far, above first last ports a delete past, above (suc last) (suc last) ports a delete far) refl
        ]
      ]
    ]

grown : (r : Row) (e : Entry) (rest : List Route) (a : ℕ) → Rising r → goes_on r e ≡ true → answer a (row_route (record { first = r.first; last = e.address }) ∷ rest) ≡ answer a (row_route r ∷ single e ∷ rest)
grown r e rest a rising on =
    let (at, ports, delete) = goes_on_parts r e on in
    rw (at, ports, delete) (joined r.first.address r.last (port_set r.first.ports) a r.first.delete rest rising)

after_answer : (rs : List Row) (e : Entry) (rest : List Route) (a : ℕ) → AllByRecursion Rising rs → answer a (map row_route (after rs e) ++ rest) ≡ answer a (map row_route rs ++ single e ∷ rest)
after_answer [] e rest a rising = refl
after_answer (r ∷ []) e rest a rising =
    elim (cases_Bool (goes_on r e)) [
      | inl on ↦ rw on (grown r e rest a rising.0 on)
      | inr off ↦ rw off refl
    ]
after_answer (r ∷ s ∷ rs) e rest a rising = then_same a (row_route r) (map row_route (after (s ∷ rs) e) ++ rest) (map row_route (s ∷ rs) ++ single e ∷ rest) (after_answer (s ∷ rs) e rest a rising.1)

pub after_rising : (rs : List Row) (e : Entry) → AllByRecursion Rising rs → AllByRecursion Rising (after rs e)
after_rising [] e rising = ((omega arith), tt)
after_rising (r ∷ []) e rising =
    elim (cases_Bool (goes_on r e)) [
      | inl on ↦
          let at = (goes_on_parts r e on).0 in
          let low = rising.0 in
          rw on ((omega arith), tt)
      | inr off ↦ rw off (rising.0, ((omega arith), tt))
    ]
after_rising (r ∷ s ∷ rs) e rising = (rising.0, after_rising (s ∷ rs) e rising.1)

pub all_rising : (rs : List Row) (es : List Entry) → AllByRecursion Rising rs → AllByRecursion Rising (fold after rs es)
all_rising rs [] rising = rising
all_rising rs (e ∷ es) rising = all_rising (after rs e) es (after_rising rs e rising)

all_answer : (rs : List Row) (es : List Entry) (a : ℕ) → AllByRecursion Rising rs → answer a (map row_route (fold after rs es)) ≡ answer a (map row_route rs ++ map single es)
all_answer rs [] a rising = ap (answer a) (sym (append-nil (map row_route rs)))
all_answer rs (e ∷ es) a rising = all_answer (after rs e) es a (after_rising rs e rising) ∙ after_answer rs e (map single es) a rising

-- the rows answer as the entries
pub rows_answer : (es : List Entry) (a : ℕ) → answer a (map row_route (rows es)) ≡ answer a (map single es)
rows_answer es a = all_answer [] es a tt
