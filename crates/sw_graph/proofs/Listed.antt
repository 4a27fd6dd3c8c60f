-- What is listed in rows.
use Rattle.std.proofs.Common.{◌≡◌, ℕ, zero, suc, ◌<◌, ◌≤◌, List, [], ◌∷◌, length, get_or, refl, sym, ap, subst, inl, inr, arith, All}
use Rattle.std.specs.Prelude.{Vec, Contains}
use Rattle.std.specs.declared.alloc.Global.{Global}
use Rattle.std.specs.List.{AllByRecursion}
use Rattle.std.proofs.lemmas.Bool.{cases_lt}
use Rattle.std.proofs.lemmas.List.{get_or_default}
use Rattle.std.proofs.lemmas.List.Elements.{recursion_from_All, All-contains, All-contains_itself}
use Rattle.std.proofs.lemmas.Option.{slice_get_read}
use Rattle.sw_graph.specs.Rows.{row, items_of, IsGraph, IsReversed, Leads, Precedes}

-- each row's list is that of a row that the graph has
pub row_rec : (P : Vec ℕ Global → Type 0) (g : List (Vec ℕ Global)) (k : ℕ) → AllByRecursion P g → k < length g → (v : Vec ℕ Global) × (row g k ≡ v.items) × P v
row_rec P [] k h lt = absurd (omega arith)
row_rec P (v ∷ g) zero h lt = (v, refl, h.0)
row_rec P (v ∷ g) (suc k) h lt = row_rec P g k h.1 (omega arith)

pub row_read : (g : List (Vec ℕ Global)) (k : ℕ) (v : Vec ℕ Global) → k < length g → v ≡ get_or g k v → row g k ≡ v.items
row_read g k v lt at = ap items_of (slice_get_read g (length g) k v refl lt at)

pub row_at : (g : List (Vec ℕ Global)) (k : ℕ) (v : Vec ℕ Global) → k < length g → row g k ≡ (get_or g k v).items
row_at g k v lt = row_read g k (get_or g k v) lt (get_or_default g k v (get_or g k v) lt)

pub row_past : (g : List (Vec ℕ Global)) (k : ℕ) → length g ≤ k → row g k ≡ []
row_past [] k le = refl
row_past (v ∷ g) zero le = absurd (omega arith)
row_past (v ∷ g) (suc k) le = row_past g k (omega arith)

abbrev Within : ℕ → Vec ℕ Global → Type 0
Within n v = All (λ d. d < n) v.items

pub row_within : (g : List (Vec ℕ Global)) (k : ℕ) → IsGraph g → k < length g → All (λ d. d < length g) (row g k)
row_within g k h lt =
    let r = row_rec (Within (length g)) g k (recursion_from_All (Within (length g)) g h) lt in
    let P : List ℕ → Type 0 = λ l. All (λ d. d < length g) l in
    subst P (sym r.1) r.2

not_in_none : (d : ℕ) → Contains [] d → ⊥
not_in_none d h = let lt = h.1 in omega arith

-- a row that lists something is that of a member
pub row_member : (g : List (Vec ℕ Global)) (k d : ℕ) → Contains (row g k) d → k < length g
row_member g k d h = elim (cases_lt k (length g)) [ inl lt ↦ lt | inr le ↦ let P : List ℕ → Type 0 = λ l. Contains l d in absurd (not_in_none d (subst P (row_past g k le) h)) ]

pub row_inside : (g : List (Vec ℕ Global)) → IsGraph g → (c d : ℕ) → Precedes g c d → (c < length g) × (d < length g)
row_inside g ok c d h = let lt = row_member g d c h in (All-contains (λ d. d < length g) (row g d) c (row_within g d ok lt) h, lt)

pub lead_inside : (g : List (Vec ℕ Global)) → IsGraph g → (c d : ℕ) → Leads g c d → (c < length g) × (d < length g)
lead_inside g ok c d h = let lt = row_member g c d h in (lt, All-contains (λ d. d < length g) (row g c) d (row_within g c ok lt) h)

-- the rows of predecessors list members alone
pub reversed_graph : (g h : List (Vec ℕ Global)) → IsGraph g → IsReversed g h → IsGraph h
reversed_graph g h ok r k v lt =
    let P : List ℕ → Type 0 = λ l. All (λ d. d < length h) l in
    subst P (row_at h k v lt) (λ i d li. let e = get_or (row h k) i d in let s = (lead_inside g ok e k ((r.each e k).1 (All-contains_itself (row h k) i d li))).0 in let size = r.size in omega arith)
