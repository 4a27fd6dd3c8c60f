-- Tables that are listed as values.
use Rattle.std.proofs.Common.{◌≡◌, ℕ, ◌+◌, ◌<◌, ◌≤◌, List, [], ◌∷◌, ◌++◌, map, length, take, get_or, BTreeMap, String, Global, pos, Result, Ok, Err, refl, sym, ap, ◌∙◌}
use Rattle.std.specs.Prelude.{IsErrAnd}
use Rattle.std.proofs.lemmas.List.{take_more, map_push}
use Rattle.toml.specs.Data.{Data, integer, table, Members}
use Rattle.toml.specs.declared.value.Value.{Value, Table}
use Rattle.toml.specs.View.{view, table_view}
use Rattle.toml.proofs.Views.{view-Table}
use Rattle.sw_text.specs.declared.keys.Key.TheVariants.{Version as VersionKey, Switch}
use Rattle.sw_text.specs.declared.fault.TextFault.{TextFault}
use Rattle.sw_text.specs.declared.fault.OrMemory.TheVariants as file
use Rattle.sw_text.specs.Gives.{◌>>=◌, FileFault, Fails, Gives, each}
use Rattle.sw_text.proofs.Walks.{each_fails, each_done}
use Rattle.sw_file.specs.Rows.{Row}
use Rattle.sw_file.specs.Tree.{with_key, with_tables, row_table, new_switches, as_values, migrated}
use Rattle.sw_file.proofs.RowEntries.{ok_same}
use Rattle.sw_text.proofs.Results.{bind_ok}

-- one table more
pub table_more : (done : List Members) (values new : List Value) (t : BTreeMap (String Global) Value) → map view values ≡ map table done → new ≡ values ++ Table t ∷ [] → map view new ≡ map table (done ++ table_view t ∷ [])
table_more done values new t so_far put =
    ap (map view) put ∙ map_push view values (Table t) ∙ ap (λ ds. ds ++ view (Table t) ∷ []) so_far ∙ ap (λ d. map table done ++ d ∷ []) (view-Table t) ∙ sym (map_push table done (table_view t))

-- the table of one row more
pub row_more : {X : Type 0} (f : X → Row) (items : List X) (i : ℕ) (x : X) (values new : List Value) (t : BTreeMap (String Global) Value) → i < length items → x ≡ get_or items i x
    → map view values ≡ map table (map row_table (map f (take i items))) → new ≡ values ++ Table t ∷ [] → table_view t ≡ row_table (f x) → map view new ≡ map table (map row_table (map f (take (i + 1) items)))
row_more f items i x values new t lt at so_far put is =
    let taken : take (i + 1) items ≡ take i items ++ x ∷ [] = take_more items i x lt ∙ ap (λ y. take i items ++ y ∷ []) (sym at) in
    let rows : map row_table (map f (take (i + 1) items)) ≡ map row_table (map f (take i items)) ++ row_table (f x) ∷ [] =
    ap (λ l. map row_table (map f l)) taken ∙ ap (map row_table) (map_push f (take i items) x) ∙ map_push row_table (map f (take i items)) (f x) in
    table_more (map row_table (map f (take i items))) values new t so_far put ∙ ap (map table) (ap (λ m. map row_table (map f (take i items)) ++ m ∷ []) is ∙ sym rows)

fails_then : {A B : Type 0} (e : FileFault) (r : Result A TextFault) (f : A → Result B TextFault) → Fails e r → Fails e (r >>= f)
fails_then file.Memory r f failed = tt
fails_then (file.Fault e) r f failed = rw failed refl

module _ {A X Y : Type 0} (one : Y → Result A TextFault) (f : X → Y) (tables : Result (List Y) TextFault) (listed items : List X) (read : tables ≡ Ok (map f listed)) (same : items ≡ listed) where
  -- what is read of the entry at i fails, and with it what is made of all
  pub made_fails : {B T : Type 0} (make : List A → Result B TextFault) (seen : T → B) (i : ℕ) (done : List A) (x : X) (e : FileFault) (result : Result T FileFault) → IsErrAnd result (λ y. y ≡ e) → each one (take i (map f items)) ≡ Ok done → i < length items → x ≡ get_or items i x
      → Fails e (one (f x)) → Gives seen result (tables >>= λ ts. each one ts >>= make)
  made_fails make seen i done x e (Ok y) failed so_far lt at here = absurd failed
  made_fails make seen i done x e (Err y) failed so_far lt at here = rw (failed, read, ← same) (fails_then e (each one (map f items)) make (each_fails one f items i done x e so_far lt at here))

  -- each was read
  pub made_done : {B : Type 0} (make : List A → Result B TextFault) (i : ℕ) (done : List A) → each one (take i (map f items)) ≡ Ok done → length items ≤ i → (tables >>= λ ts. each one ts >>= make) ≡ make done
  made_done make i done so_far past = rw (read, ← same, each_done one f items i done so_far past) refl

module _ {X Y : Type 0} (one : Y → Result Members TextFault) (f : X → Y) (tables : Result (List Y) TextFault) (listed items : List X) (read : tables ≡ Ok (map f listed)) (same : items ≡ listed) where
  -- what is read of the entry at i fails, and with it what is read of each
  pub values_fail : {T : Type 0} (seen : T → List Data) (i : ℕ) (done : List Members) (x : X) (e : FileFault) (result : Result T FileFault) → IsErrAnd result (λ y. y ≡ e) → each one (take i (map f items)) ≡ Ok done → i < length items → x ≡ get_or items i x
      → Fails e (one (f x)) → Gives seen result (as_values (tables >>= λ ts. each one ts))
  values_fail seen i done x e (Ok y) failed so_far lt at here = absurd failed
  values_fail seen i done x e (Err y) failed so_far lt at here = rw (failed, read, ← same) (fails_then e (each one (map f items)) (λ ts. Ok (map table ts)) (each_fails one f items i done x e so_far lt at here))

  -- each was read
  pub values_done : (i : ℕ) (done : List Members) (values : List Data) → each one (take i (map f items)) ≡ Ok done → values ≡ map table done → length items ≤ i → as_values (tables >>= λ ts. each one ts) ≡ Ok values
  values_done i done values so_far made past = rw (read, ← same, each_done one f items i done so_far past, made) refl

first_fails : {A B : Type 0} (r : Result A TextFault) (f : A → B) (e : TextFault) → (r >>= λ x. Ok (f x)) ≡ Err e → r ≡ Err e
first_fails (Ok x) f e failed = absurd cc
first_fails (Err d) f e failed = let same : d ≡ e = cc in ap Err same

-- the migrated table, by what was put into it
pub migrated_is : (ms put new : Members) (values : List Data) → as_values (new_switches ms) ≡ Ok values → put ≡ with_key VersionKey (integer (pos 2)) ms
    → ((listed : List Members) → values ≡ map table listed → new ≡ with_tables Switch listed put) → migrated ms ≡ Ok new
unfolding migrated
migrated_is ms put new values read is puts =
    let a = bind_ok (new_switches ms) (λ tables. Ok (map table tables)) values read in
    let whole : new ≡ with_tables Switch a.0 put = puts a.0 (sym (ok_same (map table a.0) values a.2)) in
    rw (a.1, whole, is) refl

pub migrated_fails : (ms : Members) (e : FileFault) → Fails e (as_values (new_switches ms)) → Fails e (migrated ms)
unfolding migrated
migrated_fails ms file.Memory failed = tt
migrated_fails ms (file.Fault e) failed = rw (first_fails (new_switches ms) (map table) e failed) refl
