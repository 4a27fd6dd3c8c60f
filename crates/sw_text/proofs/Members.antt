-- A table's keys, as the program and as its definition sees them.
use Rattle.std.proofs.Common.{◌≡◌, ◌<◌, ◌≤◌, ℕ, Bool, true, false, not, List, [], ◌∷◌, map, Option, Some, None, option_map, Result, Ok, Err, String, Global, string_bytes, nat_cmp, Less, refl, sym, ap, subst, length, take, get_or, ◌∙◌, inl, inr}
use Rattle.std.specs.Prelude.{find}
use Rattle.std.specs.Map.{keys_of}
use Rattle.std.specs.List.{AllByRecursion}
use Rattle.std.specs.List.Sorted.{IsStrictlySortedBy}
use Rattle.std.specs.String.{string_cmp}
use Rattle.std.specs.Cmp.Lexicographic.{slice_cmp}
use Rattle.std.proofs.lemmas.Cmp.{nat_list_cmp_total}
use Rattle.std.proofs.lemmas.Bool.{cases_Bool}
use Rattle.toml.specs.declared.value.Value.{Value}
use Rattle.toml.specs.Data.{Data, Members, as_array, as_table, get_member}
use Rattle.toml.specs.View.{view, items_view, members_view}
use Rattle.sw_text.specs.Keys.{key_text}
use Rattle.sw_text.specs.Table.{member_names, is_known, least_unknown, lesser, only_known, item_list, items_value, table_value, tables_value, tables_or_none}
use Rattle.sw_text.specs.declared.keys.Key.{Key}
use Rattle.sw_text.specs.declared.keys.Section.{Section}
use Rattle.sw_text.specs.declared.fault.KeyFault.TheVariants.{WrongType}
use Rattle.sw_text.specs.declared.fault.TextFault.{TextFault}
use Rattle.sw_text.specs.declared.fault.TextFault.TheVariants as fault
use Rattle.sw_text.specs.declared.fault.OrMemory.TheVariants.{Fault}
use Rattle.sw_text.specs.Gives.{◌>>=◌, FileFault, ok_or, Fails, each}
use Rattle.sw_text.proofs.Unknown.{no_name_fault, no_name_passes}
use Rattle.sw_text.proofs.Walks.{each_done, each_fails}

-- the first key that passes
find-member_names : (test : List ℕ → Bool) (es : List (String Global × Value)) → option_map string_bytes (find (λ k. test (string_bytes k)) (keys_of es)) ≡ find test (member_names (members_view es))
find-member_names test [] = refl
find-member_names test (e ∷ es) =
    elim (cases_Bool (test (string_bytes e.0))) [
      | inl met ↦ rw met refl
      | inr missed ↦ rw missed (find-member_names test es)
    ]

-- what stands before each of a list stands before the one that is found in it
before_found : (test : List ℕ → Bool) (k l : List ℕ) (ks : List (List ℕ)) → AllByRecursion (λ y. slice_cmp nat_cmp k y ≡ Less) ks → find test ks ≡ Some l → slice_cmp nat_cmp k l ≡ Less
before_found test k l [] all found = absurd cc
before_found test k l (x ∷ ks) all found =
    elim (cases_Bool (test x)) [
      | inl met ↦ let same : x ≡ l = (let e : Some x ≡ Some l = rw met at found in cc) in rw (← same) all.0
      | inr missed ↦ before_found test k l ks all.1 (rw missed at found)
    ]

stays_lesser : (k : List ℕ) (o : Option (List ℕ)) → ((l : List ℕ) → o ≡ Some l → slice_cmp nat_cmp k l ≡ Less) → lesser k o ≡ k
stays_lesser k None before = refl
stays_lesser k (Some l) before = rw (nat_list_cmp_total.antisymm l k, before l refl) refl

-- of names that ascend, the least that is unknown is the first
least-first : (known : List Key) (ks : List (List ℕ)) → IsStrictlySortedBy (slice_cmp nat_cmp) ks → least_unknown known ks ≡ find (λ k. not (is_known known k)) ks
unfolding IsStrictlySortedBy
least-first known [] sorted = refl
least-first known (k ∷ ks) sorted =
    let rest = least-first known ks sorted.1 in
    elim (cases_Bool (is_known known k)) [
      | inl old ↦ rw old rest
      | inr new ↦ rw (new, rest) (ap Some (stays_lesser k (find (λ x. not (is_known known x)) ks) (λ l found. before_found (λ x. not (is_known known x)) k l ks sorted.0 found)))
    ]

all_names : (k : String Global) (es : List (String Global × Value)) → AllByRecursion (λ y. string_cmp k y ≡ Less) (keys_of es) → AllByRecursion (λ y. slice_cmp nat_cmp (string_bytes k) y ≡ Less) (member_names (members_view es))
all_names k [] all = tt
all_names k (e ∷ es) all = (all.0, all_names k es all.1)

names_ascend : (es : List (String Global × Value)) → IsStrictlySortedBy string_cmp (keys_of es) → IsStrictlySortedBy (slice_cmp nat_cmp) (member_names (members_view es))
unfolding IsStrictlySortedBy
names_ascend [] sorted = tt
names_ascend (e ∷ es) sorted = (all_names e.0 es sorted.0, names_ascend es sorted.1)

-- an unknown key
abbrev pub is_unknown : List Key → String Global → Bool
is_unknown known k = not (is_known known (string_bytes k))

found_first : {A : Type 0} (test : A → Bool) (x : A) (xs : List A) → test x ≡ true → find test (x ∷ xs) ≡ Some x
found_first test x xs met = rw met refl

found_later : {A : Type 0} (test : A → Bool) (x : A) (xs : List A) → test x ≡ false → find test (x ∷ xs) ≡ find test xs
found_later test x xs missed = rw missed refl

told : (known : List Key) (k : String Global) (name : List ℕ) (b c : Bool) → name ≡ string_bytes k → b ≡ is_known known name → b ≡ c → is_unknown known k ≡ not c
told known k name b c named is at = ap (λ n. not (is_known known n)) (sym named) ∙ ap not (sym is ∙ at)

-- one more key that is known
pub one_known : (known : List Key) (all left rest : List (String Global)) (k : String Global) (name : List ℕ) (b : Bool) → find (is_unknown known) all ≡ find (is_unknown known) left → left ≡ k ∷ rest
    → name ≡ string_bytes k → b ≡ is_known known name → b ≡ true → find (is_unknown known) all ≡ find (is_unknown known) rest
one_known known all left rest k name b so_far is named asked old = so_far ∙ ap (find (is_unknown known)) is ∙ found_later (is_unknown known) k rest (told known k name b true named asked old)

-- keys that ascend, of which those before the ones that are left are known
module _ (s : Section) (known : List Key) (es : List (String Global × Value)) (ascend : IsStrictlySortedBy string_cmp (keys_of es)) (left : List (String Global))
    (so_far : find (is_unknown known) (keys_of es) ≡ find (is_unknown known) left) where
  least_is : (o : Option (String Global)) → find (is_unknown known) left ≡ o → least_unknown known (member_names (members_view es)) ≡ option_map string_bytes o
  least_is o found =
      least-first known (member_names (members_view es)) (names_ascend es ascend)
      ∙ sym (find-member_names (λ k. not (is_known known k)) es)
      ∙ ap (option_map string_bytes) (so_far ∙ found)

  pub first_unknown : (rest : List (String Global)) (k : String Global) (name : List ℕ) (b : Bool) → left ≡ k ∷ rest → name ≡ string_bytes k → b ≡ is_known known name → b ≡ false
      → only_known s known (members_view es) ≡ Err (fault.UnknownKey s name)
  first_unknown rest k name b is named asked new =
      no_name_fault s known (members_view es) name
      (least_is (Some k) (ap (find (is_unknown known)) is ∙ found_first (is_unknown known) k rest (told known k name b false named asked new)) ∙ ap Some (sym named))

  pub none_unknown : left ≡ [] → only_known s known (members_view es) ≡ Ok tt
  none_unknown is = no_name_passes s known (members_view es) (least_is None (ap (find (is_unknown known)) is))

-- the items of an array
item_list-items_view : (vs : List Value) → item_list (items_view vs) ≡ map view vs
item_list-items_view [] = refl
item_list-items_view (v ∷ vs) = ap (λ t. view v ∷ t) (item_list-items_view vs)

-- an array of these items
items_are : (s : Section) (key : Key) (d : Data) (vs : List Value) → Some (items_view vs) ≡ as_array d → items_value s key d ≡ Ok (map view vs)
items_are s key d vs is = ap (λ o. ok_or o (fault.Key WrongType s key) >>= λ ds. Ok (item_list ds)) (sym is) ∙ ap Ok (item_list-items_view vs)

-- what is read for each item of such an array
module _ {A : Type 0} (one : Data → Result A TextFault) (s : Section) (key : Key) (d : Data) (vs items : List Value) (is : Some (items_view vs) ≡ as_array d) (same : items ≡ vs) where
  items_each : (items_value s key d >>= λ ds. each one ds) ≡ each one (map view items)
  items_each = ap (λ r. r >>= λ ds. each one ds) (items_are s key d vs is) ∙ ap (λ xs. each one (map view xs)) (sym same)

  pub items_fail : (e : FileFault) → Fails e (each one (map view items)) → Fails e (items_value s key d >>= λ ds. each one ds)
  items_fail e fails = subst (λ r. Fails e r) (sym items_each) fails

  pub items_done : (r : Result (List A) TextFault) → each one (map view items) ≡ r → (items_value s key d >>= λ ds. each one ds) ≡ r
  items_done r done = items_each ∙ done

-- the tables of such a list at a key, as a loop goes along it
module _ (s : Section) (key : Key) (ms : Members) (d : Data) (vs items : List Value) (there : Some d ≡ get_member (key_text key) ms) (is : Some (items_view vs) ≡ as_array d) (same : items ≡ vs) where
  tables_there : tables_or_none s key ms ≡ tables_value s key d
  tables_there = let at : get_member (key_text key) ms ≡ Some d = sym there in rw at refl

  pub no_table : (i : ℕ) (done : List Members) (x : Value) → each (table_value s key) (take i (map view items)) ≡ Ok done → i < length items → x ≡ get_or items i x → None ≡ as_table (view x)
      → tables_or_none s key ms ≡ Err (fault.Key WrongType s key)
  no_table i done x so_far lt at none =
      tables_there
      ∙ items_fail (table_value s key) s key d vs items is same (Fault (fault.Key WrongType s key))
      (each_fails (table_value s key) view items i done x (Fault (fault.Key WrongType s key)) so_far lt at (ap (λ o. ok_or o (fault.Key WrongType s key)) (sym none)))

  pub all_tables : (i : ℕ) (done : List Members) → each (table_value s key) (take i (map view items)) ≡ Ok done → length items ≤ i → tables_or_none s key ms ≡ Ok done
  all_tables i done so_far past = tables_there ∙ items_done (table_value s key) s key d vs items is same (Ok done) (each_done (table_value s key) view items i done so_far past)

pub table_is : (s : Section) (key : Key) (d : Data) (ms : Members) → Some ms ≡ as_table d → table_value s key d ≡ Ok ms
table_is s key d ms is = ap (λ o. ok_or o (fault.Key WrongType s key)) (sym is)
