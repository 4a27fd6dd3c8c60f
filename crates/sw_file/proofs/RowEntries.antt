-- An entry of version 1 is read as an entry, and a row of such entries as an entry of version 2.
use Rattle.std.proofs.Common.{◌≡◌, ℕ, ◌≤◌, Bool, true, false, ◌&&◌, ◌||◌, pos, negsuc, ℤ, leb, List, [], ◌∷◌, length, Option, Some, None, Result, Ok, Err, nat_le, refl, sym, ap, ◌∙◌, inl, inr}
use Rattle.std.specs.Prelude.{if◌then◌else◌, ◌==◌}
use Rattle.std.specs.Str.{bytes_eq}
use Rattle.std.proofs.lemmas.Bool.{cases_Bool, and_parts, le-leb, leb-true, eqb-true}
use Rattle.toml.specs.Data.{Data, integer, Members, get_member, as_integer, as_bool, as_array}
use Rattle.sw_topo.specs.Ports.{port_set}
use Rattle.sw_route.specs.declared.look.Route.{Route as RouteEntry}
use Rattle.sw_route.specs.Looks.{entry}
use Rattle.sw_text.specs.declared.keys.Key.{Key}
use Rattle.sw_text.specs.declared.keys.Key.TheVariants.{Address, Last, Ports, Delete}
use Rattle.sw_text.specs.declared.keys.Section.{Section}
use Rattle.sw_text.specs.declared.keys.Section.TheVariants.{Document}
use Rattle.sw_text.specs.declared.keys.Version.TheVariants.{One, Two}
use Rattle.sw_text.specs.declared.fault.KeyFault.TheVariants.{MissingKey, WrongType, OutOfRange}
use Rattle.sw_text.specs.declared.fault.TextFault.{TextFault}
use Rattle.sw_text.specs.declared.fault.TextFault.TheVariants as fault
use Rattle.sw_text.specs.Keys.{key_text}
use Rattle.sw_text.specs.Gives.{◌>>=◌, ok_or, each}
use Rattle.sw_text.specs.Table.{is_known, only_known, required, in_range, item_list, number_value, items_value, numbers_value, number_at, number_or, numbers_at, flag_or_false}
use Rattle.sw_text.specs.KeyLaws.{HasOnly}
use Rattle.sw_text.specs.SectionKeys.{route_keys}
use Rattle.sw_file.specs.Switches.{ports_at, route_of}
use Rattle.sw_file.specs.Rows.{Entry, Row}
use Rattle.sw_file.specs.Tree.{with_key, entry_of, row_table}
use Rattle.sw_file.proofs.RowLooks.{single, row_route}
use Rattle.sw_file.proofs.Known.{passed}
use Rattle.sw_file.proofs.Values.{there as ok_or_is}
use Rattle.sw_file.proofs.Tables.{passes}
use Rattle.sw_file.proofs.PutMembers.{get_other, get_same, only_put, only_more, absent_name}
use Rattle.sw_text.proofs.Results.{bind_ok}

-- the table is that of the entry, wherever it stands
pub record IsEntry (t : Members) (e : Entry) : Type 0 where
  pub table : e.table ≡ t
  pub known : HasOnly (route_keys One) t
  pub address : (s : Section) → number_at s Address 32 254 t ≡ Ok e.address
  pub high : e.address ≤ 254
  pub ports : (s : Section) → ports_at s t ≡ Ok (port_set e.ports)
  pub delete : (s : Section) → flag_or_false s Delete t ≡ Ok e.delete

-- what is read of a value does not depend on where it stands
number_value-anywhere : (s t : Section) (key : Key) (low high : ℕ) (d : Data) (n : ℕ) → number_value s key low high d ≡ Ok n → number_value t key low high d ≡ Ok n
number_value-anywhere s t key low high d n well =
    let a = bind_ok (ok_or (as_integer d) (fault.Key WrongType s key)) (λ z. ok_or (in_range low high z) (fault.Key OutOfRange s key)) n well in
    rw (ok_or_is (as_integer d) (fault.Key WrongType s key) a.0 a.1, ok_or_is (in_range low high a.0) (fault.Key OutOfRange s key) n a.2) refl

pub number_at-anywhere : (s t : Section) (key : Key) (low high : ℕ) (ms : Members) (n : ℕ) → number_at s key low high ms ≡ Ok n → number_at t key low high ms ≡ Ok n
number_at-anywhere s t key low high ms n well =
    let a = bind_ok (required s key ms) (number_value s key low high) n well in
    rw (ok_or_is (get_member (key_text key) ms) (fault.Key MissingKey s key) a.0 a.1) (number_value-anywhere s t key low high a.0 n a.2)

each-anywhere : (s t : Section) (key : Key) (high : ℕ) (ds : List Data) (ns : List ℕ) → each (number_value s key 0 high) ds ≡ Ok ns → each (number_value t key 0 high) ds ≡ Ok ns
each-anywhere s t key high [] ns well = well
each-anywhere s t key high (d ∷ ds) ns well =
    let a = bind_ok (number_value s key 0 high d) (λ n. each (number_value s key 0 high) ds >>= λ rest. Ok (n ∷ rest)) ns well in
    let b = bind_ok (each (number_value s key 0 high) ds) (λ rest. Ok (a.0 ∷ rest)) ns a.2 in
    rw (number_value-anywhere s t key 0 high d a.0 a.1, each-anywhere s t key high ds b.0 b.1) b.2

pub items_value-anywhere : (s t : Section) (key : Key) (d : Data) (ds : List Data) → items_value s key d ≡ Ok ds → items_value t key d ≡ Ok ds
items_value-anywhere s t key d ds well =
    let a = bind_ok (ok_or (as_array d) (fault.Key WrongType s key)) (λ xs. Ok (item_list xs)) ds well in
    rw (ok_or_is (as_array d) (fault.Key WrongType s key) a.0 a.1) a.2

pub numbers_at-anywhere : (s t : Section) (key : Key) (high : ℕ) (ms : Members) (ns : List ℕ) → numbers_at s key high ms ≡ Ok ns → numbers_at t key high ms ≡ Ok ns
numbers_at-anywhere s t key high ms ns well =
    let a = bind_ok (required s key ms) (numbers_value s key high) ns well in
    let b = bind_ok (items_value s key a.0) (each (number_value s key 0 high)) ns a.2 in
    rw (ok_or_is (get_member (key_text key) ms) (fault.Key MissingKey s key) a.0 a.1, items_value-anywhere s t key a.0 b.0 b.1) (each-anywhere s t key high b.0 ns b.2)

flag_at : (s t : Section) (key : Key) (o : Option Data) (ms : Members) (b : Bool) → get_member (key_text key) ms ≡ o → flag_or_false s key ms ≡ Ok b → flag_or_false t key ms ≡ Ok b
flag_at s t key None ms b is well = rw is (rw is at well)
flag_at s t key (Some d) ms b is well = rw (is, ok_or_is (as_bool d) (fault.Key WrongType s key) b (rw is at well)) refl

pub flag_or_false-anywhere : (s t : Section) (key : Key) (ms : Members) (b : Bool) → flag_or_false s key ms ≡ Ok b → flag_or_false t key ms ≡ Ok b
flag_or_false-anywhere s t key ms b well = flag_at s t key (get_member (key_text key) ms) ms b refl well

in_range-high : (low high n m : ℕ) → in_range low high (pos n) ≡ Some m → m ≤ high
in_range-high low high n m well =
    elim (cases_Bool (leb low n && leb n high)) [
      | inl fits ↦ let same : n ≡ m = (let e : Some n ≡ Some m = rw fits at well in cc) in rw (← same) (leb-true n high (and_parts (leb low n) (leb n high) fits).1)
      | inr off ↦ let e : None ≡ Some m = rw off at well in absurd cc
    ]

range_high : (low high : ℕ) (z : ℤ) (m : ℕ) → in_range low high z ≡ Some m → m ≤ high
range_high low high (pos n) m well = in_range-high low high n m well
range_high low high (negsuc n) m well = absurd cc

number_high : (s : Section) (key : Key) (low high : ℕ) (ms : Members) (n : ℕ) → number_at s key low high ms ≡ Ok n → n ≤ high
number_high s key low high ms n well =
    let a = bind_ok (required s key ms) (number_value s key low high) n well in
    let b = bind_ok (ok_or (as_integer a.0) (fault.Key WrongType s key)) (λ z. ok_or (in_range low high z) (fault.Key OutOfRange s key)) n a.2 in
    range_high low high b.0 n (ok_or_is (in_range low high b.0) (fault.Key OutOfRange s key) n b.2)

ports_set : (s : Section) (t : Members) (set : ℕ) → ports_at s t ≡ Ok set → (ns : List ℕ) × (numbers_at s Ports 31 t ≡ Ok ns) × (set ≡ port_set ns) × ((nat_le 1 (length ns) && nat_le (length ns) 32) ≡ true)
unfolding ports_at
ports_set s t set well =
    let a = bind_ok (numbers_at s Ports 31 t) (λ ports. if nat_le 1 (length ports) && nat_le (length ports) 32 then Ok (port_set ports) else Err (fault.Key OutOfRange s Ports)) set well in
    elim (cases_Bool (nat_le 1 (length a.0) && nat_le (length a.0) 32)) [
      | inl fits ↦ (a.0, a.1, (let e : Ok (port_set a.0) ≡ Ok set = rw fits at a.2 in cc), fits)
      | inr off ↦ (let e : Err (fault.Key OutOfRange s Ports) ≡ Ok set = rw off at a.2 in absurd cc)
    ]

ports_from : (t : Section) (ms : Members) (ns : List ℕ) → numbers_at t Ports 31 ms ≡ Ok ns → (nat_le 1 (length ns) && nat_le (length ns) 32) ≡ true → ports_at t ms ≡ Ok (port_set ns)
unfolding ports_at
ports_from t ms ns read fits = rw (read, fits) refl

pub number_or-none : (s : Section) (key : Key) (low high default : ℕ) (ms : Members) → get_member (key_text key) ms ≡ None → number_or s key low high default ms ≡ Ok default
number_or-none s key low high default ms none = rw none refl

pub ok_same : {A : Type 0} (x y : A) → ◌≡◌ {A = Result A TextFault} (Ok x) (Ok y) → x ≡ y
ok_same x y same = cc

same_route : (first last ports set : ℕ) (delete : Bool) (r : RouteEntry) → entry first last ports delete ≡ r → first ≡ last → ports ≡ set → r ≡ entry first first set delete
same_route first last ports set delete r is alone same = sym is ∙ rw (← alone, same) refl

-- an entry of version 1
pub entry_read : (s : Section) (t : Members) (r : RouteEntry) → route_of One s t ≡ Ok r → (e : Entry) × (entry_of t ≡ Ok e) × (r ≡ single e) × IsEntry t e
unfolding route_of entry_of
entry_read s t r well =
    let a = bind_ok (only_known s (route_keys One) t) _ r well in
    let b = bind_ok (number_at s Address 32 254 t) _ r a.2 in
    let c = bind_ok (number_or s Last b.0 254 b.0 t) _ r b.2 in
    let d = bind_ok (ports_at s t) _ r c.2 in
    let f = bind_ok (flag_or_false s Delete t) _ r d.2 in
    let only = passed s (route_keys One) t a.0 a.1 in
    let none : get_member (key_text Last) t ≡ None = absent_name (route_keys One) t (key_text Last) only refl in
    let alone : b.0 ≡ c.0 = ok_same b.0 c.0 (sym (number_or-none s Last b.0 254 b.0 t none) ∙ c.1) in
    let p = ports_set s t d.0 d.1 in
    let e : Entry = record { table = t; address = b.0; ports = p.0; delete = f.0 } in (
      e,
      rw (number_at-anywhere s Document Address 32 254 t b.0 b.1, numbers_at-anywhere s Document Ports 31 t p.0 p.1, flag_or_false-anywhere s Document Delete t f.0 f.1) refl,
      same_route b.0 c.0 d.0 (port_set p.0) f.0 r (ok_same (entry b.0 c.0 d.0 f.0) r f.2) alone p.2,
      record {
        table = refl;
        known = only;
        address = λ u. number_at-anywhere s u Address 32 254 t b.0 b.1;
        high = number_high s Address 32 254 t b.0 b.1;
        ports = λ u. ports_from u t p.0 (numbers_at-anywhere s u Ports 31 t p.0 p.1) p.3;
        delete = λ u. flag_or_false-anywhere s u Delete t f.0 f.1;
      },
    )

-- the keys of version 2 are those of version 1 and one more
wider : (a b c l : Bool) → (a || (b || (c || false))) ≡ true → (a || (l || (b || (c || false)))) ≡ true
wider true b c l known = refl
wider false b c true known = refl
wider false b c false known = known

pub more_keys : (name : List ℕ) → is_known (route_keys One) name ≡ true → is_known (route_keys Two) name ≡ true
more_keys name known = wider (bytes_eq (key_text Address) name) (bytes_eq (key_text Ports) name) (bytes_eq (key_text Delete) name) (bytes_eq (key_text Last) name) known

-- what route_of reads, in its order
route_from : (s : Section) (ms : Members) (first last ports : ℕ) (delete : Bool) → only_known s (route_keys Two) ms ≡ Ok tt → number_at s Address 32 254 ms ≡ Ok first → number_or s Last first 254 first ms ≡ Ok last → ports_at s ms ≡ Ok ports → flag_or_false s Delete ms ≡ Ok delete
    → route_of Two s ms ≡ Ok (entry first last ports delete)
unfolding route_of
route_from s ms first last ports delete a b c d e = rw (a, b, c, d, e) refl

-- the entry of version 1 is one of version 2 too
pub alone_read : (s : Section) (t : Members) (e : Entry) → IsEntry t e → route_of Two s t ≡ Ok (single e)
alone_read s t e is =
    let none : get_member (key_text Last) t ≡ None = absent_name (route_keys One) t (key_text Last) is.known refl in
    route_from s t e.address e.address (port_set e.ports) e.delete (passes s (route_keys Two) t (only_more (route_keys One) (route_keys Two) t more_keys is.known)) (is.address s) (number_or-none s Last e.address 254 e.address t none) (is.ports s) (is.delete s)

-- a number in its range is read back
number_back : (s : Section) (key : Key) (low high default n : ℕ) (ms : Members) → get_member (key_text key) ms ≡ Some (integer (pos n)) → low ≤ n → n ≤ high → number_or s key low high default ms ≡ Ok n
number_back s key low high default n ms there lower higher = rw (there, le-leb low n lower, le-leb n high higher) refl

ports_same : (s : Section) (ms ns : Members) → get_member (key_text Ports) ms ≡ get_member (key_text Ports) ns → ports_at s ms ≡ ports_at s ns
unfolding ports_at
ports_same s ms ns same = rw same refl

number_same : (s : Section) (key : Key) (low high : ℕ) (ms ns : Members) → get_member (key_text key) ms ≡ get_member (key_text key) ns → number_at s key low high ms ≡ number_at s key low high ns
number_same s key low high ms ns same = rw same refl

flag_same : (s : Section) (key : Key) (ms ns : Members) → get_member (key_text key) ms ≡ get_member (key_text key) ns → flag_or_false s key ms ≡ flag_or_false s key ns
flag_same s key ms ns same = rw same refl

-- with `last`, it is an entry for all addresses up to there
pub longer_read : (s : Section) (t : Members) (e : Entry) (last : ℕ) → IsEntry t e → e.address ≤ last → last ≤ 254 → route_of Two s (with_key Last (integer (pos last)) t) ≡ Ok (entry e.address last (port_set e.ports) e.delete)
longer_read s t e last is rising high =
    let d = integer (pos last) in
    let ms = with_key Last d t in
    route_from s ms e.address last (port_set e.ports) e.delete
    (passes s (route_keys Two) ms (only_put (route_keys Two) (key_text Last) d t refl (only_more (route_keys One) (route_keys Two) t more_keys is.known)))
    (number_same s Address 32 254 ms t (get_other (key_text Address) (key_text Last) d t refl) ∙ is.address s)
    (number_back s Last e.address 254 e.address last ms (get_same (key_text Last) d t) rising high)
    (ports_same s ms t (get_other (key_text Ports) (key_text Last) d t refl) ∙ is.ports s)
    (flag_same s Delete ms t (get_other (key_text Delete) (key_text Last) d t refl) ∙ is.delete s)

-- a row's table is its entry of version 2
pub row_read : (s : Section) (r : Row) → IsEntry r.first.table r.first → r.first.address ≤ r.last → r.last ≤ 254 → route_of Two s (row_table r) ≡ Ok (row_route r)
row_read s r is rising high =
    elim (cases_Bool (r.first.address == r.last)) [
      | inl same ↦
          let at : r.first.address ≡ r.last = eqb-true r.first.address r.last same in
          rw same (alone_read s r.first.table r.first is ∙ ap (λ n. Ok (entry r.first.address n (port_set r.first.ports) r.first.delete)) at)
      | inr more ↦ rw more (longer_read s r.first.table r.first r.last is rising high)
    ]
