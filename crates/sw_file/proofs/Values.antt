-- Reading of values and of keys, in words.
use Rattle.std.proofs.Common.{◌≡◌, ℕ, ◌≤◌, ◌&&◌, Bool, false, List, [], ◌∷◌, Option, Some, None, Result, Ok, refl, sym, subst, ap, ◌∙◌, arith, inl, inr}
use Rattle.std.specs.Prelude.{ℤ, pos, negsuc, nat_le}
use Rattle.std.specs.List.{AllZip}
use Rattle.std.proofs.lemmas.Bool.{and_parts, leb-true, le-leb}
use Rattle.std.proofs.lemmas.Option.{cond_some}
use Rattle.toml.specs.Data.{Data, Members, get_member, as_str, as_integer, as_bool, as_array, as_table}
use Rattle.sw_text.specs.declared.keys.Key.{Key}
use Rattle.sw_text.specs.declared.keys.Section.{Section}
use Rattle.sw_text.specs.declared.fault.KeyFault.TheVariants.{MissingKey, WrongType, OutOfRange}
use Rattle.sw_text.specs.declared.fault.TextFault.{TextFault}
use Rattle.sw_text.specs.declared.fault.TextFault.TheVariants as fault
use Rattle.sw_text.specs.Keys.{key_text}
use Rattle.sw_text.specs.Gives.{◌>>=◌, ok_or, each}
use Rattle.sw_text.specs.Table.{required, text_value, in_range, number_value, item_list, items_value, table_value, numbers_value, text_at, number_at, number_or, number_or_none, numbers_at, numbers_or_none, tables_or_none, table_or_none, flag_or_false}
use Rattle.sw_file.specs.Values.{IsText, IsFlag, IsNumber, IsListOf, IsTableOf, Lacks, Has, HasOr, HasIfAny, HasTables}
use Rattle.sw_text.proofs.Results.{bind_ok}

-- what is there, and what passes a test
pub there : {A : Type 0} (o : Option A) (e : TextFault) (a : A) → ok_or o e ≡ Ok a → o ≡ Some a
there (Some x) e a h = let same : x ≡ a = cc in ap Some same
there None e a h = absurd cc

-- a number in its range
whole : (low high n : ℕ) (z : ℤ) → in_range low high z ≡ Some n → (z ≡ pos n) × (low ≤ n) × (n ≤ high)
whole low high n (pos m) h =
    let parts = cond_some (nat_le low m && nat_le m high) m n h in
    let tests = and_parts (nat_le low m) (nat_le m high) parts.0 in
    (ap pos parts.1, omega (arith, leb-true low m tests.0, parts.1), omega (arith, leb-true m high tests.1, parts.1))
whole low high n (negsuc m) h = absurd cc

pub is_number : (s : Section) (key : Key) (low high : ℕ) (d : Data) (n : ℕ) → number_value s key low high d ≡ Ok n → IsNumber low high d n
is_number s key low high d n h =
    let z = bind_ok (ok_or (as_integer d) (fault.Key WrongType s key)) (λ z. ok_or (in_range low high z) (fault.Key OutOfRange s key)) n h in
    let is = whole low high n z.0 (there (in_range low high z.0) (fault.Key OutOfRange s key) n z.2) in
    record { whole = there (as_integer d) (fault.Key WrongType s key) z.0 z.1 ∙ ap Some is.0; least = is.1; most = is.2 }

pub number_is : (s : Section) (key : Key) (low high : ℕ) (d : Data) (n : ℕ) → IsNumber low high d n → number_value s key low high d ≡ Ok n
number_is s key low high d n is = rw (is.whole, le-leb low n is.least, le-leb n high is.most) refl

-- each of a list
module _ {A X : Type 0} (f : X → Result A TextFault) (Is : X → A → Type 0) where
  pub each_is : ((x : X) (a : A) → f x ≡ Ok a → Is x a) → (xs : List X) (ys : List A) → each f xs ≡ Ok ys → AllZip Is xs ys
  each_is to [] [] h = tt
  each_is to [] (y ∷ ys) h = absurd cc
  each_is to (x ∷ xs) [] h =
      let a = bind_ok (f x) (λ a. each f xs >>= λ rest. Ok (a ∷ rest)) [] h in
      let b = bind_ok (each f xs) (λ rest. Ok (a.0 ∷ rest)) [] a.2 in
      let e : Ok (a.0 ∷ b.0) ≡ Ok [] = b.2 in absurd cc
  each_is to (x ∷ xs) (y ∷ ys) h =
      let a = bind_ok (f x) (λ a. each f xs >>= λ rest. Ok (a ∷ rest)) (y ∷ ys) h in
      let b = bind_ok (each f xs) (λ rest. Ok (a.0 ∷ rest)) (y ∷ ys) a.2 in
      let e : Ok (a.0 ∷ b.0) ≡ Ok (y ∷ ys) = b.2 in
      let first : a.0 ≡ y = cc in
      let rest : b.0 ≡ ys = cc in
      let at : f x ≡ Ok y = a.1 ∙ ap Ok first in
      let after : each f xs ≡ Ok ys = b.1 ∙ ap Ok rest in
      (to x y at, each_is to xs ys after)

  pub is_each : ((x : X) (a : A) → Is x a → f x ≡ Ok a) → (xs : List X) (ys : List A) → AllZip Is xs ys → each f xs ≡ Ok ys
  is_each from [] [] all = refl
  is_each from [] (y ∷ ys) all = absurd all
  is_each from (x ∷ xs) [] all = absurd all
  is_each from (x ∷ xs) (y ∷ ys) all = rw (from x y all.0, is_each from xs ys all.1) refl

module _ {A : Type 0} (s : Section) (key : Key) (f : Data → Result A TextFault) (Is : Data → A → Type 0) where
  -- a list
  pub is_list : ((d : Data) (a : A) → f d ≡ Ok a → Is d a) → (d : Data) (ys : List A) → (items_value s key d >>= λ ds. each f ds) ≡ Ok ys → IsListOf Is d ys
  is_list to d ys h =
      let a = bind_ok (items_value s key d) (λ ds. each f ds) ys h in
      let b = bind_ok (ok_or (as_array d) (fault.Key WrongType s key)) (λ ds. Ok (item_list ds)) a.0 a.1 in
      let e : Ok (item_list b.0) ≡ Ok a.0 = b.2 in
      let same : item_list b.0 ≡ a.0 = cc in
      let at : each f (item_list b.0) ≡ Ok ys = rw same a.2 in
      record { items = b.0; array = there (as_array d) (fault.Key WrongType s key) b.0 b.1; each = each_is f Is to (item_list b.0) ys at }

  pub list_is : ((d : Data) (a : A) → Is d a → f d ≡ Ok a) → (d : Data) (ys : List A) → IsListOf Is d ys → (items_value s key d >>= λ ds. each f ds) ≡ Ok ys
  list_is from d ys is = rw (is.array, is_each f Is from (item_list is.items) ys is.each) refl

  -- a key that has to be there
  pub has : (ms : Members) (a : A) → ((d : Data) → f d ≡ Ok a → Is d a) → (required s key ms >>= f) ≡ Ok a → Has Is key ms a
  has ms a to h =
      let d = bind_ok (required s key ms) f a h in
      record { value = d.0; stands = there (get_member (key_text key) ms) (fault.Key MissingKey s key) d.0 d.1; is = to d.0 d.2 }

  pub has_it : (ms : Members) (a : A) → ((d : Data) → Is d a → f d ≡ Ok a) → Has Is key ms a → (required s key ms >>= f) ≡ Ok a
  has_it ms a from is = rw (is.stands, from is.value is.is) refl

-- a key that may be left out
module _ {A : Type 0} (Is : Data → A → Type 0) (default : A) (key : Key) (ms : Members) (a : A) (r : Result A TextFault) (none : Lacks key ms → r ≡ Ok default) where
  has_or_by : ((d : Data) → get_member (key_text key) ms ≡ Some d → r ≡ Ok a → Is d a) → r ≡ Ok a → (o : Option Data) → get_member (key_text key) ms ≡ o → HasOr Is default key ms a
  has_or_by some h None e = let left : r ≡ Ok default = none e in inr (e, cc)
  has_or_by some h (Some d) e = inl (record { value = d; stands = e; is = some d e h })

  pub has_or : ((d : Data) → get_member (key_text key) ms ≡ Some d → r ≡ Ok a → Is d a) → r ≡ Ok a → HasOr Is default key ms a
  has_or some h = has_or_by some h (get_member (key_text key) ms) refl

  pub has_or_it : ((d : Data) → get_member (key_text key) ms ≡ Some d → Is d a → r ≡ Ok a) → HasOr Is default key ms a → r ≡ Ok a
  has_or_it some (inl is) = some is.value is.stands is.is
  has_or_it some (inr out) = none out.0 ∙ ap Ok (sym out.1)

module _ (s : Section) (key : Key) (ms : Members) where
  pub has_text : (t : List ℕ) → text_at s key ms ≡ Ok t → Has IsText key ms t
  has_text t h = has s key (text_value s key) IsText ms t (λ d e. there (as_str d) (fault.Key WrongType s key) t e) h

  pub text_is : (t : List ℕ) → Has IsText key ms t → text_at s key ms ≡ Ok t
  text_is t is = has_it s key (text_value s key) IsText ms t (λ d e. rw e refl) is

  pub has_number : (low high n : ℕ) → number_at s key low high ms ≡ Ok n → Has (IsNumber low high) key ms n
  has_number low high n h = has s key (number_value s key low high) (IsNumber low high) ms n (λ d e. is_number s key low high d n e) h

  pub has_number_it : (low high n : ℕ) → Has (IsNumber low high) key ms n → number_at s key low high ms ≡ Ok n
  has_number_it low high n is = has_it s key (number_value s key low high) (IsNumber low high) ms n (λ d e. number_is s key low high d n e) is

  pub has_number_or : (low high default n : ℕ) → number_or s key low high default ms ≡ Ok n → HasOr (IsNumber low high) default key ms n
  has_number_or low high default n h =
      has_or (IsNumber low high) default key ms n (number_or s key low high default ms) (λ e. rw e refl) (λ d e g. is_number s key low high d n (rw e at g)) h

  pub number_or_is : (low high default n : ℕ) → HasOr (IsNumber low high) default key ms n → number_or s key low high default ms ≡ Ok n
  number_or_is low high default n is =
      has_or_it (IsNumber low high) default key ms n (number_or s key low high default ms) (λ e. rw e refl) (λ d e g. rw e (number_is s key low high d n g)) is

  -- a number, if anything stands there
  number_there : (low high : ℕ) (o : Option ℕ) (d : Data) → get_member (key_text key) ms ≡ Some d → number_or_none s key low high ms ≡ Ok o → HasIfAny (IsNumber low high) key ms o
  number_there low high o d e h =
      let n = bind_ok (number_value s key low high d) (λ n. Ok (Some n)) o (rw e at h) in
      let given : Ok (Some n.0) ≡ Ok o = n.2 in
      let same : Some n.0 ≡ o = cc in
      subst (HasIfAny (IsNumber low high) key ms) same (record { value = d; stands = e; is = is_number s key low high d n.0 n.1 })

  number_if_any : (low high : ℕ) (o : Option ℕ) → number_or_none s key low high ms ≡ Ok o → (v : Option Data) → get_member (key_text key) ms ≡ v → HasIfAny (IsNumber low high) key ms o
  number_if_any low high None h None e = e
  number_if_any low high (Some n) h None e = let bad : Ok None ≡ Ok (Some n) = rw e at h in absurd cc
  number_if_any low high o h (Some d) e = number_there low high o d e h

  pub has_number_or_none : (low high : ℕ) (o : Option ℕ) → number_or_none s key low high ms ≡ Ok o → HasIfAny (IsNumber low high) key ms o
  has_number_or_none low high o h = number_if_any low high o h (get_member (key_text key) ms) refl

  pub number_or_none_is : (low high : ℕ) (o : Option ℕ) → HasIfAny (IsNumber low high) key ms o → number_or_none s key low high ms ≡ Ok o
  number_or_none_is low high None h = rw h refl
  number_or_none_is low high (Some n) h = rw (h.stands, number_is s key low high h.value n h.is) refl

  pub has_numbers : (high : ℕ) (ns : List ℕ) → numbers_at s key high ms ≡ Ok ns → Has (IsListOf (IsNumber 0 high)) key ms ns
  has_numbers high ns h =
      has s key (numbers_value s key high) (IsListOf (IsNumber 0 high)) ms ns (λ d e. is_list s key (number_value s key 0 high) (IsNumber 0 high) (λ x n. is_number s key 0 high x n) d ns e) h

  pub numbers_is : (high : ℕ) (ns : List ℕ) → Has (IsListOf (IsNumber 0 high)) key ms ns → numbers_at s key high ms ≡ Ok ns
  numbers_is high ns is =
      has_it s key (numbers_value s key high) (IsListOf (IsNumber 0 high)) ms ns (λ d e. list_is s key (number_value s key 0 high) (IsNumber 0 high) (λ x n. number_is s key 0 high x n) d ns e) is

  pub has_numbers_or : (high : ℕ) (ns : List ℕ) → numbers_or_none s key high ms ≡ Ok ns → HasOr (IsListOf (IsNumber 0 high)) [] key ms ns
  has_numbers_or high ns h =
      has_or (IsListOf (IsNumber 0 high)) [] key ms ns (numbers_or_none s key high ms) (λ e. rw e refl)
      (λ d e g. is_list s key (number_value s key 0 high) (IsNumber 0 high) (λ x n. is_number s key 0 high x n) d ns (rw e at g)) h

  pub numbers_or_is : (high : ℕ) (ns : List ℕ) → HasOr (IsListOf (IsNumber 0 high)) [] key ms ns → numbers_or_none s key high ms ≡ Ok ns
  numbers_or_is high ns is =
      has_or_it (IsListOf (IsNumber 0 high)) [] key ms ns (numbers_or_none s key high ms) (λ e. rw e refl)
      (λ d e g. rw e (list_is s key (number_value s key 0 high) (IsNumber 0 high) (λ x n. number_is s key 0 high x n) d ns g)) is

  pub has_flag : (b : Bool) → flag_or_false s key ms ≡ Ok b → HasOr IsFlag false key ms b
  has_flag b h = has_or IsFlag false key ms b (flag_or_false s key ms) (λ e. rw e refl) (λ d e g. there (as_bool d) (fault.Key WrongType s key) b (rw e at g)) h

  pub flag_is : (b : Bool) → HasOr IsFlag false key ms b → flag_or_false s key ms ≡ Ok b
  flag_is b is = has_or_it IsFlag false key ms b (flag_or_false s key ms) (λ e. rw e refl) (λ d e g. rw (e, g) refl) is

  -- a list of tables
  abbrev pub IsTheTable : Data → Members → Type 0
  IsTheTable d t = as_table d ≡ Some t

  pub has_tables : (ts : List Members) → tables_or_none s key ms ≡ Ok ts → HasOr (IsListOf IsTheTable) [] key ms ts
  has_tables ts h =
      has_or (IsListOf IsTheTable) [] key ms ts (tables_or_none s key ms) (λ e. rw e refl)
      (λ d e g. is_list s key (table_value s key) IsTheTable (λ x t i. there (as_table x) (fault.Key WrongType s key) t i) d ts (rw e at g)) h

  pub tables_is : (ts : List Members) → HasOr (IsListOf IsTheTable) [] key ms ts → tables_or_none s key ms ≡ Ok ts
  tables_is ts is =
      has_or_it (IsListOf IsTheTable) [] key ms ts (tables_or_none s key ms) (λ e. rw e refl)
      (λ d e g. rw e (list_is s key (table_value s key) IsTheTable (λ x t i. rw i refl) d ts g)) is

  module _ {A : Type 0} (Is : Members → A → Type 0) where
    -- tables of a list, and what they are for
    joined_items : (ds : List Data) (ts : List Members) (es : List A) → AllZip IsTheTable ds ts → AllZip Is ts es → AllZip (IsTableOf Is) ds es
    joined_items [] [] [] all is = tt
    joined_items [] [] (e ∷ es) all is = absurd is
    joined_items [] (t ∷ ts) es all is = absurd all
    joined_items (d ∷ ds) [] es all is = absurd all
    joined_items (d ∷ ds) (t ∷ ts) [] all is = absurd is
    joined_items (d ∷ ds) (t ∷ ts) (e ∷ es) all is = (record { members = t; table = all.0; is = is.0 }, joined_items ds ts es all.1 is.1)

    parted_items : (ds : List Data) (es : List A) → AllZip (IsTableOf Is) ds es → (ts : List Members) × AllZip IsTheTable ds ts × AllZip Is ts es
    parted_items [] [] all = ([], tt, tt)
    parted_items [] (e ∷ es) all = absurd all
    parted_items (d ∷ ds) [] all = absurd all
    parted_items (d ∷ ds) (e ∷ es) all =
        let rest = parted_items ds es all.1 in
        let first = all.0 in
        (first.members ∷ rest.0, (first.table, rest.1), (first.is, rest.2))

    no_entries : (ts : List Members) (es : List A) → ts ≡ [] → AllZip Is ts es → es ≡ []
    no_entries [] [] e is = refl
    no_entries [] (x ∷ es) e is = absurd is
    no_entries (t ∷ ts) es e is = absurd cc

    pub joined : (ts : List Members) (es : List A) → HasOr (IsListOf IsTheTable) [] key ms ts → AllZip Is ts es → HasTables Is key ms es
    joined ts es (inl h) is = inl (record { value = h.value; stands = h.stands; is = record { items = h.is.items; array = h.is.array; each = joined_items (item_list h.is.items) ts es h.is.each is } })
    joined ts es (inr out) is = inr (out.0, no_entries ts es out.1 is)

    pub parted : (es : List A) → HasTables Is key ms es → (ts : List Members) × HasOr (IsListOf IsTheTable) [] key ms ts × AllZip Is ts es
    parted es (inl h) =
        let parts = parted_items (item_list h.is.items) es h.is.each in
        (parts.0, inl (record { value = h.value; stands = h.stands; is = record { items = h.is.items; array = h.is.array; each = parts.1 } }), parts.2)
    parted es (inr out) = ([], inr (out.0, refl), rw out.1 tt)

    -- a table at a key that may be left out, read by f
    module _ (f : Members → Result A TextFault) where
      abbrev pub read_if_any : Option Members → Result (Option A) TextFault
      read_if_any None = Ok None
      read_if_any (Some t) = f t >>= λ a. Ok (Some a)

      opened : (r : Result (Option Members) TextFault) (v : Result Members TextFault) (o : Option A) → r ≡ (v >>= λ t. Ok (Some t)) → (r >>= read_if_any) ≡ Ok o → (t : Members) × (a : A) × (v ≡ Ok t) × (f t ≡ Ok a) × (Some a ≡ o)
      opened r v o e h =
          let m = bind_ok r read_if_any o h in
          let t = bind_ok v (λ t. Ok (Some t)) m.0 (sym e ∙ m.1) in
          let found : Ok (Some t.0) ≡ Ok m.0 = t.2 in
          let same : Some t.0 ≡ m.0 = cc in
          let a = bind_ok (f t.0) (λ a. Ok (Some a)) o (ap read_if_any same ∙ m.2) in
          let given : Ok (Some a.0) ≡ Ok o = a.2 in
          (t.0, a.0, t.1, a.1, cc)

      if_any_some : ((t : Members) (a : A) → f t ≡ Ok a → Is t a) → (o : Option A) → (table_or_none s key ms >>= read_if_any) ≡ Ok o → (d : Data) → get_member (key_text key) ms ≡ Some d → HasIfAny (IsTableOf Is) key ms o
      if_any_some to o h d e =
          let is = opened (table_or_none s key ms) (table_value s key d) o (rw e refl) h in
          subst (λ x. HasIfAny (IsTableOf Is) key ms x) is.4
          (record { value = d; stands = e; is = record { members = is.0; table = there (as_table d) (fault.Key WrongType s key) is.0 is.2; is = to is.0 is.1 is.3 } })

      if_any_by : ((t : Members) (a : A) → f t ≡ Ok a → Is t a) → (o : Option A) → (table_or_none s key ms >>= read_if_any) ≡ Ok o → (v : Option Data) → get_member (key_text key) ms ≡ v → HasIfAny (IsTableOf Is) key ms o
      if_any_by to None h None e = e
      if_any_by to (Some a) h None e = let bad : Ok None ≡ Ok (Some a) = rw e at h in absurd cc
      if_any_by to o h (Some d) e = if_any_some to o h d e

      pub has_if_any : ((t : Members) (a : A) → f t ≡ Ok a → Is t a) → (o : Option A) → (table_or_none s key ms >>= read_if_any) ≡ Ok o → HasIfAny (IsTableOf Is) key ms o
      has_if_any to o h = if_any_by to o h (get_member (key_text key) ms) refl

      pub if_any_is : ((t : Members) (a : A) → Is t a → f t ≡ Ok a) → (o : Option A) → HasIfAny (IsTableOf Is) key ms o → (table_or_none s key ms >>= read_if_any) ≡ Ok o
      if_any_is from None h = rw h refl
      if_any_is from (Some a) h = rw (h.stands, h.is.table, from h.is.members a h.is.is) refl
