-- The routing table that entries of version 1 declare, and the one that their rows declare in version 2.
use Rattle.std.proofs.Common.{◌≡◌, ℕ, suc, ◌≤◌, Bool, false, List, [], ◌∷◌, ◌++◌, map, Ok, Err, refl, sym, ap, ◌∙◌, inl, inr, arith, append_assoc, append-nil, subst}
use Rattle.std.specs.Prelude.{fold, if◌then◌else◌}
use Rattle.std.specs.List.{AllByRecursion, list_any}
use Rattle.std.proofs.lemmas.Bool.{cases_Bool, or_parts, or_from}
use Rattle.toml.specs.Data.{Members}
use Rattle.sw_route.specs.declared.look.Route.{Route as RouteEntry}
use Rattle.sw_route.specs.Looks.{overlaps}
use Rattle.sw_text.specs.declared.keys.Section.TheVariants as section
use Rattle.sw_text.specs.declared.keys.Version.TheVariants.{One, Two}
use Rattle.sw_text.specs.declared.fault.TextFault.TheVariants as fault
use Rattle.sw_text.specs.Gives.{each, walk_from}
use Rattle.sw_file.specs.Switches.{route_of, next_route}
use Rattle.sw_file.specs.Rows.{Entry, Row, goes_on, after, rows}
use Rattle.sw_file.specs.Tree.{entry_of, row_table}
use Rattle.sw_file.proofs.RowLooks.{single, row_route, Rising, goes_on_parts}
use Rattle.sw_file.proofs.RowsApart.{FreeOf, Apart, rows_apart}
use Rattle.sw_file.proofs.RowEntries.{IsEntry, ok_same, entry_read, row_read}
use Rattle.sw_route.proofs.Entries.{overlaps_turned}
use Rattle.sw_text.proofs.Results.{bind_ok}

-- each overlaps none that was there before it
abbrev pub Fresh : List RouteEntry → List RouteEntry → Type 0
Fresh done [] = Unit {0}
Fresh done (r ∷ rs) = (list_any (overlaps r) done ≡ false) × Fresh (done ++ r ∷ []) rs

abbrev AllFree : List RouteEntry → List RouteEntry → Type 0
AllFree done rs = AllByRecursion (λ r. list_any (overlaps r) done ≡ false) rs

any_parts : (f : RouteEntry → Bool) (done : List RouteEntry) (r : RouteEntry) → list_any f (done ++ r ∷ []) ≡ false → (list_any f done ≡ false) × (f r ≡ false)
any_parts f [] r off = (refl, (or_parts (f r) false off).0)
any_parts f (x ∷ done) r off =
    let parts = or_parts (f x) (list_any f (done ++ r ∷ [])) off in
    let rest = any_parts f done r parts.1 in
    (or_from (f x) (list_any f done) parts.0 rest.0, rest.1)

any_from : (f : RouteEntry → Bool) (done : List RouteEntry) (r : RouteEntry) → list_any f done ≡ false → f r ≡ false → list_any f (done ++ r ∷ []) ≡ false
any_from f [] r off last = or_from (f r) false last refl
any_from f (x ∷ done) r off last =
    let parts = or_parts (f x) (list_any f done) off in
    or_from (f x) (list_any f (done ++ r ∷ [])) parts.0 (any_from f done r parts.1 last)

split_free : (done : List RouteEntry) (r : RouteEntry) (rs : List RouteEntry) → AllFree (done ++ r ∷ []) rs → AllFree done rs × FreeOf r rs
split_free done r [] free = (tt, tt)
split_free done r (q ∷ rs) free =
    let here = any_parts (overlaps q) done r free.0 in
    let rest = split_free done r rs free.1 in
    ((here.0, rest.0), (overlaps_turned q r here.1, rest.1))

join_free : (done : List RouteEntry) (r : RouteEntry) (rs : List RouteEntry) → AllFree done rs → FreeOf r rs → AllFree (done ++ r ∷ []) rs
join_free done r [] free off = tt
join_free done r (q ∷ rs) free off = (any_from (overlaps q) done r free.0 (overlaps_turned r q off.0), join_free done r rs free.1 off.1)

fresh_apart : (done rs : List RouteEntry) → Fresh done rs → AllFree done rs × Apart rs
fresh_apart done [] fresh = (tt, tt)
fresh_apart done (r ∷ rs) fresh =
    let rest = fresh_apart (done ++ r ∷ []) rs fresh.1 in
    let parts = split_free done r rs rest.0 in
    ((fresh.0, parts.0), (parts.1, rest.1))

apart_fresh : (done rs : List RouteEntry) → AllFree done rs → Apart rs → Fresh done rs
apart_fresh done [] free apart = tt
apart_fresh done (r ∷ rs) free apart = (free.0, apart_fresh (done ++ r ∷ []) rs (join_free done r rs free.1 apart.0) apart.1)

none_before : (rs : List RouteEntry) → AllFree [] rs
none_before [] = tt
none_before (r ∷ rs) = (refl, none_before rs)

-- rows of what is apart are fresh
pub rows_fresh : (es : List Entry) → Fresh [] (map single es) → Fresh [] (map row_route (rows es))
rows_fresh es fresh = apart_fresh [] (map row_route (rows es)) (none_before (map row_route (rows es))) (rows_apart es (fresh_apart [] (map single es) fresh).1)

abbrev pub Known : Entry → Type 0
Known e = IsEntry e.table e

-- the entries of tables of version 1 that were read after `done`
pub record AreEntries (done : List RouteEntry) (tables : List Members) (routes : List RouteEntry) : Type 0 where
  pub entries : List Entry
  pub read : each entry_of tables ≡ Ok entries
  pub known : AllByRecursion Known entries
  pub are : routes ≡ done ++ map single entries
  pub fresh : Fresh done (map single entries)

pub route_step : (i j : ℕ) (done : List RouteEntry) (t : Members) (next : List RouteEntry) → next_route One i j done t ≡ Ok next → (r : RouteEntry) × (route_of One (section.Route i j) t ≡ Ok r) × (list_any (overlaps r) done ≡ false) × (next ≡ done ++ r ∷ [])
unfolding next_route
route_step i j done t next well =
    let a = bind_ok (route_of One (section.Route i j) t) (λ r. if list_any (overlaps r) done then Err (fault.DuplicateRoute i j) else Ok (done ++ r ∷ [])) next well in
    elim (cases_Bool (list_any (overlaps a.0) done)) [
      | inl taken ↦ (let e : Err (fault.DuplicateRoute i j) ≡ Ok next = rw taken at a.2 in absurd cc)
      | inr free ↦ (a.0, a.1, free, sym (ok_same (done ++ a.0 ∷ []) next (rw free at a.2)))
    ]

known_entry : (t : Members) (e : Entry) → IsEntry t e → Known e
known_entry t e is = subst (λ x. IsEntry x e) (sym is.table) is

pub old_routes : (i j : ℕ) (done : List RouteEntry) (tables : List Members) (routes : List RouteEntry) → walk_from (next_route One i) j done tables ≡ Ok routes → AreEntries done tables routes
old_routes i j done [] routes well = record { entries = []; read = refl; known = tt; are = sym (ok_same done routes well) ∙ sym (append-nil done); fresh = tt }
old_routes i j done (t ∷ tables) routes well =
    let first = bind_ok (next_route One i j done t) (λ next. walk_from (next_route One i) (suc j) next tables) routes well in
    let step = route_step i j done t first.0 first.1 in
    let e = entry_read (section.Route i j) t step.0 step.1 in
    let next : first.0 ≡ done ++ single e.0 ∷ [] = step.3 ∙ ap (λ r. done ++ r ∷ []) e.2 in
    let free : list_any (overlaps (single e.0)) done ≡ false = rw e.2 at step.2 in
    let rest = old_routes i (suc j) (done ++ single e.0 ∷ []) tables routes (rw next at first.2) in
    record {
      entries = e.0 ∷ rest.entries;
      read = rw (e.1, rest.read) refl;
      known = (known_entry t e.0 e.3, rest.known);
      are = rest.are ∙ append_assoc done (single e.0 ∷ []) (map single rest.entries);
      fresh = (free, rest.fresh);
    }

-- a row that can be read in version 2
pub record IsReadable (r : Row) : Type 0 where
  pub known : Known r.first
  pub rising : Rising r
  pub high : r.last ≤ 254

after_readable : (rs : List Row) (e : Entry) → AllByRecursion IsReadable rs → Known e → AllByRecursion IsReadable (after rs e)
after_readable [] e readable known = (record { known = known; rising = (omega arith); high = known.high }, tt)
after_readable (r ∷ []) e readable known =
    elim (cases_Bool (goes_on r e)) [
      | inl on ↦
          let at = (goes_on_parts r e on).0 in
          let low = readable.0.rising in
          rw on (record { known = readable.0.known; rising = (omega arith); high = known.high }, tt)
      | inr off ↦ rw off (readable.0, (record { known = known; rising = (omega arith); high = known.high }, tt))
    ]
after_readable (r ∷ s ∷ rs) e readable known = (readable.0, after_readable (s ∷ rs) e readable.1 known)

all_readable : (rs : List Row) (es : List Entry) → AllByRecursion IsReadable rs → AllByRecursion Known es → AllByRecursion IsReadable (fold after rs es)
all_readable rs [] readable known = readable
all_readable rs (e ∷ es) readable known = all_readable (after rs e) es (after_readable rs e readable known.0) known.1

pub rows_readable : (es : List Entry) → AllByRecursion Known es → AllByRecursion IsReadable (rows es)
rows_readable es known = all_readable [] es tt known

new_step : (i j : ℕ) (done : List RouteEntry) (t : Members) (r : RouteEntry) → route_of Two (section.Route i j) t ≡ Ok r → list_any (overlaps r) done ≡ false → next_route Two i j done t ≡ Ok (done ++ r ∷ [])
unfolding next_route
new_step i j done t r read free = rw (read, free) refl

pub new_routes : (i j : ℕ) (done : List RouteEntry) (rs : List Row) → AllByRecursion IsReadable rs → Fresh done (map row_route rs) → walk_from (next_route Two i) j done (map row_table rs) ≡ Ok (done ++ map row_route rs)
new_routes i j done [] readable fresh = ap Ok (sym (append-nil done))
new_routes i j done (r ∷ rs) readable fresh =
    let here = new_step i j done (row_table r) (row_route r) (row_read (section.Route i j) r readable.0.known readable.0.rising readable.0.high) fresh.0 in
    rw here (new_routes i (suc j) (done ++ row_route r ∷ []) rs readable.1 fresh.1 ∙ ap Ok (append_assoc done (row_route r ∷ []) (map row_route rs)))
