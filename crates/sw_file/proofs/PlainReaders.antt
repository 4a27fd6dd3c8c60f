-- What the readers of a table have read is plain.
use Rattle.std.proofs.Common.{◌≡◌, ℕ, suc, Bool, true, ℤ, List, [], ◌∷◌, Option, Some, None, Ok, Err, refl, sym, ◌∙◌, arith, subst}
use Rattle.std.specs.List.{AllByRecursion}
use Rattle.std.proofs.lemmas.Bool.{and_parts}
use Rattle.toml.specs.Data.{Data, string, integer, float, boolean, datetime, array, table, Items, no_items, item, Members, get_member, as_str, as_integer, as_bool, as_array, as_table, is_sorted, items_are_sorted, members_are_sorted}
use Rattle.sw_text.specs.declared.keys.Key.{Key}
use Rattle.sw_text.specs.declared.keys.Section.{Section}
use Rattle.sw_text.specs.declared.fault.KeyFault.TheVariants.{MissingKey, WrongType, OutOfRange}
use Rattle.sw_text.specs.declared.fault.TextFault.TheVariants as fault
use Rattle.sw_text.specs.Keys.{key_text}
use Rattle.sw_text.specs.Gives.{◌>>=◌, ok_or, each}
use Rattle.sw_text.specs.Table.{required, text_value, in_range, number_value, item_list, items_value, table_value, numbers_value, text_at, text_or_none, number_at, number_or, numbers_at, numbers_or_none, tables_or_none, table_or_none, flag_or_false, absent}
use Rattle.sw_file.proofs.Values.{there as ok_or_is}
use Rattle.sw_file.proofs.Plain.{Plain, PlainItems, PlainMembers, Holds, one_item, no_item, plain_more, plain_table, plain_array, member_sorted, member_plain, item_parts, array_plain, inner_plain}
use Rattle.sw_text.proofs.Results.{bind_ok}

atom : (n : ℕ) (d : Data) → Plain 0 d → Plain n d
atom n d plain = plain_more 0 n d (omega arith) plain

str_plain : (n : ℕ) (d : Data) (x : List ℕ) → as_str d ≡ Some x → Plain n d
str_plain n (string s) x is = record { shallow = omega arith; valid = refl }
str_plain n (integer z) x is = absurd cc
str_plain n (float f) x is = absurd cc
str_plain n (boolean b) x is = absurd cc
str_plain n (datetime t) x is = absurd cc
str_plain n (array ds) x is = absurd cc
str_plain n (table ms) x is = absurd cc

integer_plain : (n : ℕ) (d : Data) (x : ℤ) → as_integer d ≡ Some x → Plain n d
integer_plain n (string s) x is = absurd cc
integer_plain n (integer z) x is = record { shallow = omega arith; valid = refl }
integer_plain n (float f) x is = absurd cc
integer_plain n (boolean b) x is = absurd cc
integer_plain n (datetime t) x is = absurd cc
integer_plain n (array ds) x is = absurd cc
integer_plain n (table ms) x is = absurd cc

bool_plain : (n : ℕ) (d : Data) (x : Bool) → as_bool d ≡ Some x → Plain n d
bool_plain n (string s) x is = absurd cc
bool_plain n (integer z) x is = absurd cc
bool_plain n (float f) x is = absurd cc
bool_plain n (boolean b) x is = record { shallow = omega arith; valid = refl }
bool_plain n (datetime t) x is = absurd cc
bool_plain n (array ds) x is = absurd cc
bool_plain n (table ms) x is = absurd cc

pub array_is : (d : Data) (x : Items) → as_array d ≡ Some x → d ≡ array x
array_is (string s) x is = absurd cc
array_is (integer z) x is = absurd cc
array_is (float f) x is = absurd cc
array_is (boolean b) x is = absurd cc
array_is (datetime t) x is = absurd cc
array_is (array ds) x is = cc
array_is (table ms) x is = absurd cc

pub table_is : (d : Data) (x : Members) → as_table d ≡ Some x → d ≡ table x
table_is (string s) x is = absurd cc
table_is (integer z) x is = absurd cc
table_is (float f) x is = absurd cc
table_is (boolean b) x is = absurd cc
table_is (datetime t) x is = absurd cc
table_is (array ds) x is = absurd cc
table_is (table ms) x is = cc

-- what is found is what was read
same_found : (name : List ℕ) (ms : Members) (a d : Data) → get_member name ms ≡ Some a → get_member name ms ≡ Some d → a ≡ d
same_found name ms a d here there = some_same a d (sym here ∙ there)
  where
    some_same : (a d : Data) → ◌≡◌ {A = Option Data} (Some a) (Some d) → a ≡ d
    some_same a d same = cc

found_is : (s : Section) (key : Key) (ms : Members) (d a : Data) → get_member (key_text key) ms ≡ Some d → required s key ms ≡ Ok a → a ≡ d
found_is s key ms d a there read = same_found (key_text key) ms a d (ok_or_is (get_member (key_text key) ms) (fault.Key MissingKey s key) a read) there

pub text_plain : (n : ℕ) (s : Section) (key : Key) (ms : Members) (x : List ℕ) → text_at s key ms ≡ Ok x → Holds n ms (key_text key)
text_plain n s key ms x well = λ d there.
    let a = bind_ok (required s key ms) (text_value s key) x well in
    subst (Plain n) (found_is s key ms d a.0 there a.1) (str_plain n a.0 x (ok_or_is (as_str a.0) (fault.Key WrongType s key) x a.2))

value_plain : (n : ℕ) (s : Section) (key : Key) (low high : ℕ) (d : Data) (x : ℕ) → number_value s key low high d ≡ Ok x → Plain n d
value_plain n s key low high d x well =
    let a = bind_ok (ok_or (as_integer d) (fault.Key WrongType s key)) (λ z. ok_or (in_range low high z) (fault.Key OutOfRange s key)) x well in
    integer_plain n d a.0 (ok_or_is (as_integer d) (fault.Key WrongType s key) a.0 a.1)

pub number_plain : (n : ℕ) (s : Section) (key : Key) (low high : ℕ) (ms : Members) (x : ℕ) → number_at s key low high ms ≡ Ok x → Holds n ms (key_text key)
number_plain n s key low high ms x well = λ d there.
    let a = bind_ok (required s key ms) (number_value s key low high) x well in
    subst (Plain n) (found_is s key ms d a.0 there a.1) (value_plain n s key low high a.0 x a.2)

-- readers of what may be missing
pub text_or_plain : (n : ℕ) (s : Section) (key : Key) (ms : Members) (x : Option (List ℕ)) → text_or_none s key ms ≡ Ok x → Holds n ms (key_text key)
text_or_plain n s key ms x well = λ d there.
    let a = bind_ok (text_value s key d) (λ t. Ok (Some t)) x (rw there at well) in
    str_plain n d a.0 (ok_or_is (as_str d) (fault.Key WrongType s key) a.0 a.1)

pub number_or_plain : (n : ℕ) (s : Section) (key : Key) (low high default : ℕ) (ms : Members) (x : ℕ) → number_or s key low high default ms ≡ Ok x → Holds n ms (key_text key)
number_or_plain n s key low high default ms x well = λ d there. value_plain n s key low high d x (rw there at well)

pub flag_plain : (n : ℕ) (s : Section) (key : Key) (ms : Members) (x : Bool) → flag_or_false s key ms ≡ Ok x → Holds n ms (key_text key)
flag_plain n s key ms x well = λ d there. bool_plain n d x (ok_or_is (as_bool d) (fault.Key WrongType s key) x (rw there at well))

pub absent_plain : (n : ℕ) (s : Section) (key : Key) (ms : Members) (u : Unit {0}) → absent s key ms ≡ Ok u → Holds n ms (key_text key)
absent_plain n s key ms u well = λ d there. let e : Err (fault.UnknownKey s (key_text key)) ≡ Ok u = rw there at well in absurd cc

-- lists of numbers
numbers_items : (n : ℕ) (s : Section) (key : Key) (high : ℕ) (ds : Items) (xs : List ℕ) → each (number_value s key 0 high) (item_list ds) ≡ Ok xs → PlainItems n ds
numbers_items n s key high no_items xs well = no_item n
numbers_items n s key high (item d ds) xs well =
    let a = bind_ok (number_value s key 0 high d) (λ x. each (number_value s key 0 high) (item_list ds) >>= λ rest. Ok (x ∷ rest)) xs well in
    let b = bind_ok (each (number_value s key 0 high) (item_list ds)) (λ rest. Ok (a.0 ∷ rest)) xs a.2 in
    one_item n d ds (value_plain n s key 0 high d a.0 a.1) (numbers_items n s key high ds b.0 b.1)

items_parts : (s : Section) (key : Key) (d : Data) (ds : List Data) → items_value s key d ≡ Ok ds → (is : Items) × (as_array d ≡ Some is) × (item_list is ≡ ds)
items_parts s key d ds well =
    let a = bind_ok (ok_or (as_array d) (fault.Key WrongType s key)) (λ xs. Ok (item_list xs)) ds well in
    (a.0, ok_or_is (as_array d) (fault.Key WrongType s key) a.0 a.1, cc)

list_plain : (n : ℕ) (s : Section) (key : Key) (high : ℕ) (d : Data) (xs : List ℕ) → numbers_value s key high d ≡ Ok xs → Plain (suc n) d
list_plain n s key high d xs well =
    let a = bind_ok (items_value s key d) (each (number_value s key 0 high)) xs well in
    let p = items_parts s key d a.0 a.1 in
    subst (Plain (suc n)) (sym (array_is d p.0 p.1)) (plain_array n p.0 (numbers_items n s key high p.0 xs (rw p.2 a.2)))

pub numbers_plain : (n : ℕ) (s : Section) (key : Key) (high : ℕ) (ms : Members) (xs : List ℕ) → numbers_at s key high ms ≡ Ok xs → Holds (suc n) ms (key_text key)
numbers_plain n s key high ms xs well = λ d there.
    let a = bind_ok (required s key ms) (numbers_value s key high) xs well in
    subst (Plain (suc n)) (found_is s key ms d a.0 there a.1) (list_plain n s key high a.0 xs a.2)

pub numbers_or_plain : (n : ℕ) (s : Section) (key : Key) (high : ℕ) (ms : Members) (xs : List ℕ) → numbers_or_none s key high ms ≡ Ok xs → Holds (suc n) ms (key_text key)
numbers_or_plain n s key high ms xs well = λ d there. list_plain n s key high d xs (rw there at well)

-- a table inside
pub table_plain : (n : ℕ) (s : Section) (key : Key) (ms : Members) (x : Option Members) → table_or_none s key ms ≡ Ok x → members_are_sorted ms ≡ true → ((t : Members) → x ≡ Some t → members_are_sorted t ≡ true → PlainMembers n t) → Holds (suc n) ms (key_text key)
table_plain n s key ms x well sorted inner = λ d there.
    let a = bind_ok (table_value s key d) (λ t. Ok (Some t)) x (rw there at well) in
    let is : d ≡ table a.0 = table_is d a.0 (ok_or_is (as_table d) (fault.Key WrongType s key) a.0 a.1) in
    let some : x ≡ Some a.0 = (let e : Ok (Some a.0) ≡ Ok x = a.2 in cc) in
    let order : members_are_sorted a.0 ≡ true = subst (λ y. is_sorted y ≡ true) is (member_sorted (key_text key) d ms sorted there) in
    subst (Plain (suc n)) (sym is) (plain_table n a.0 (inner a.0 some order))

-- tables of a list
tables_items : (n : ℕ) (s : Section) (key : Key) (ds : Items) (ts : List Members) → each (table_value s key) (item_list ds) ≡ Ok ts → AllByRecursion (PlainMembers n) ts → PlainItems (suc n) ds
tables_items n s key no_items ts well all = no_item (suc n)
tables_items n s key (item d ds) ts well all =
    let a = bind_ok (table_value s key d) (λ x. each (table_value s key) (item_list ds) >>= λ rest. Ok (x ∷ rest)) ts well in
    let b = bind_ok (each (table_value s key) (item_list ds)) (λ rest. Ok (a.0 ∷ rest)) ts a.2 in
    let same : a.0 ∷ b.0 ≡ ts = cc in
    let all' : AllByRecursion (PlainMembers n) (a.0 ∷ b.0) = subst (AllByRecursion (PlainMembers n)) (sym same) all in
    let is : d ≡ table a.0 = table_is d a.0 (ok_or_is (as_table d) (fault.Key WrongType s key) a.0 a.1) in
    one_item (suc n) d ds (subst (Plain (suc n)) (sym is) (plain_table n a.0 all'.0)) (tables_items n s key ds b.0 b.1 all'.1)

items_sorted : (s : Section) (key : Key) (ds : Items) (ts : List Members) → each (table_value s key) (item_list ds) ≡ Ok ts → items_are_sorted ds ≡ true → AllByRecursion (λ t. members_are_sorted t ≡ true) ts
items_sorted s key no_items ts well sorted = let none : [] ≡ ts = cc in subst (AllByRecursion (λ t. members_are_sorted t ≡ true)) none tt
items_sorted s key (item d ds) ts well sorted =
    let a = bind_ok (table_value s key d) (λ x. each (table_value s key) (item_list ds) >>= λ rest. Ok (x ∷ rest)) ts well in
    let b = bind_ok (each (table_value s key) (item_list ds)) (λ rest. Ok (a.0 ∷ rest)) ts a.2 in
    let same : a.0 ∷ b.0 ≡ ts = cc in
    let parts = and_parts (is_sorted d) (items_are_sorted ds) sorted in
    let is : d ≡ table a.0 = table_is d a.0 (ok_or_is (as_table d) (fault.Key WrongType s key) a.0 a.1) in
    subst (AllByRecursion (λ t. members_are_sorted t ≡ true)) same (subst (λ x. is_sorted x ≡ true) is parts.0, items_sorted s key ds b.0 b.1 parts.1)

sorted_at : (s : Section) (key : Key) (ms : Members) (ts : List Members) (o : Option Data) → get_member (key_text key) ms ≡ o → tables_or_none s key ms ≡ Ok ts → members_are_sorted ms ≡ true → AllByRecursion (λ t. members_are_sorted t ≡ true) ts
sorted_at s key ms ts None there well sorted = let none : Ok [] ≡ Ok ts = rw there at well in let same : [] ≡ ts = cc in subst (AllByRecursion (λ t. members_are_sorted t ≡ true)) same tt
sorted_at s key ms ts (Some d) there well sorted =
    let a = bind_ok (items_value s key d) (each (table_value s key)) ts (rw there at well) in
    let p = items_parts s key d a.0 a.1 in
    let order : items_are_sorted p.0 ≡ true = subst (λ y. is_sorted y ≡ true) (array_is d p.0 p.1) (member_sorted (key_text key) d ms sorted there) in
    items_sorted s key p.0 ts (rw p.2 a.2) order

-- the tables of a list are in order
pub tables_sorted : (s : Section) (key : Key) (ms : Members) (ts : List Members) → tables_or_none s key ms ≡ Ok ts → members_are_sorted ms ≡ true → AllByRecursion (λ t. members_are_sorted t ≡ true) ts
tables_sorted s key ms ts well sorted = sorted_at s key ms ts (get_member (key_text key) ms) refl well sorted

pub tables_hold : (n : ℕ) (s : Section) (key : Key) (ms : Members) (ts : List Members) → tables_or_none s key ms ≡ Ok ts → AllByRecursion (PlainMembers n) ts → Holds (suc (suc n)) ms (key_text key)
tables_hold n s key ms ts well all = λ d there.
    let a = bind_ok (items_value s key d) (each (table_value s key)) ts (rw there at well) in
    let p = items_parts s key d a.0 a.1 in
    subst (Plain (suc (suc n))) (sym (array_is d p.0 p.1)) (plain_array (suc n) p.0 (tables_items n s key p.0 ts (rw p.2 a.2) all))

-- the tables of a list in a plain table
items_inner : (n : ℕ) (s : Section) (key : Key) (ds : Items) (ts : List Members) → each (table_value s key) (item_list ds) ≡ Ok ts → PlainItems (suc n) ds → AllByRecursion (PlainMembers n) ts
items_inner n s key no_items ts well plain = let none : [] ≡ ts = cc in subst (AllByRecursion (PlainMembers n)) none tt
items_inner n s key (item d ds) ts well plain =
    let a = bind_ok (table_value s key d) (λ x. each (table_value s key) (item_list ds) >>= λ rest. Ok (x ∷ rest)) ts well in
    let b = bind_ok (each (table_value s key) (item_list ds)) (λ rest. Ok (a.0 ∷ rest)) ts a.2 in
    let same : a.0 ∷ b.0 ≡ ts = cc in
    let parts = item_parts (suc n) d ds plain in
    let is : d ≡ table a.0 = table_is d a.0 (ok_or_is (as_table d) (fault.Key WrongType s key) a.0 a.1) in
    subst (AllByRecursion (PlainMembers n)) same (inner_plain n a.0 (subst (Plain (suc n)) is parts.0), items_inner n s key ds b.0 b.1 parts.1)

inner_at : (n : ℕ) (s : Section) (key : Key) (ms : Members) (ts : List Members) (o : Option Data) → get_member (key_text key) ms ≡ o → tables_or_none s key ms ≡ Ok ts → PlainMembers (suc (suc n)) ms → AllByRecursion (PlainMembers n) ts
inner_at n s key ms ts None there well plain = let none : Ok [] ≡ Ok ts = rw there at well in let same : [] ≡ ts = cc in subst (AllByRecursion (PlainMembers n)) same tt
inner_at n s key ms ts (Some d) there well plain =
    let a = bind_ok (items_value s key d) (each (table_value s key)) ts (rw there at well) in
    let p = items_parts s key d a.0 a.1 in
    let array' : Plain (suc (suc n)) (array p.0) = subst (Plain (suc (suc n))) (array_is d p.0 p.1) (member_plain (suc (suc n)) (key_text key) d ms plain there) in
    items_inner n s key p.0 ts (rw p.2 a.2) (array_plain (suc n) p.0 array')

pub tables_inner : (n : ℕ) (s : Section) (key : Key) (ms : Members) (ts : List Members) → tables_or_none s key ms ≡ Ok ts → PlainMembers (suc (suc n)) ms → AllByRecursion (PlainMembers n) ts
tables_inner n s key ms ts well plain = inner_at n s key ms ts (get_member (key_text key) ms) refl well plain
