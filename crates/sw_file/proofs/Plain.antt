-- Trees that are not deep and have no date: tables whose known keys hold such.
use Rattle.std.proofs.Common.{◌≡◌, ℕ, suc, ◌≤◌, max, true, ◌&&◌, List, [], ◌∷◌, map, Some, Ordering, Less, Equal, Greater, nat_cmp, refl, sym, ap, ◌∙◌, inl, inr, ◌⊎◌, arith, subst}
use Rattle.std.specs.List.{AllByRecursion}
use Rattle.std.specs.Str.{bytes_eq}
use Rattle.std.specs.Cmp.Lexicographic.{slice_cmp}
use Rattle.std.specs.Ordering.{match_ordering, ordering_reverse}
use Rattle.std.proofs.lemmas.Bool.{cases_Bool, and_parts, and_from, true≢false}
use Rattle.std.proofs.lemmas.Cmp.{nat_list_cmp_total, tied_itself}
use Rattle.std.proofs.lemmas.Slice.Eq.{bytes_eq-Decides}
use Rattle.toml.specs.Data.{Data, array, table, Items, no_items, item, Members, no_members, member, is_before, get_member, depth, items_depth, members_depth, has_valid_dates, items_have_valid_dates, members_have_valid_dates, is_sorted, members_are_sorted}
use Rattle.toml.specs.View.{items_of}
use Rattle.sw_text.specs.declared.keys.Key.{Key}
use Rattle.sw_text.specs.Keys.{key_text}
use Rattle.sw_text.specs.Table.{is_known}
use Rattle.sw_text.specs.KeyLaws.{HasOnly}
use Rattle.sw_file.specs.Tree.{put}
use Rattle.sw_file.proofs.PutMembers.{equal_names}
use Rattle.sw_text.proofs.Unknown.{less_is}

-- at most so deep, with dates that can be written
pub record Plain (n : ℕ) (d : Data) : Type 0 where
  pub shallow : depth d ≤ n
  pub valid : has_valid_dates d ≡ true

pub record PlainItems (n : ℕ) (ds : Items) : Type 0 where
  pub shallow : items_depth ds ≤ n
  pub valid : items_have_valid_dates ds ≡ true

pub record PlainMembers (n : ℕ) (ms : Members) : Type 0 where
  pub shallow : members_depth ms ≤ n
  pub valid : members_have_valid_dates ms ≡ true

max_within : (a b n : ℕ) → a ≤ n → b ≤ n → max a b ≤ n
max_within a b n l r = omega arith

pub plain_more : (n m : ℕ) (d : Data) → n ≤ m → Plain n d → Plain m d
plain_more n m d le plain = let s = plain.shallow in record { shallow = omega arith; valid = plain.valid }

pub one_member : (n : ℕ) (k : List ℕ) (d : Data) (ms : Members) → Plain n d → PlainMembers n ms → PlainMembers n (member k d ms)
one_member n k d ms here rest = record { shallow = max_within (depth d) (members_depth ms) n here.shallow rest.shallow; valid = and_from (has_valid_dates d) (members_have_valid_dates ms) here.valid rest.valid }

pub one_item : (n : ℕ) (d : Data) (ds : Items) → Plain n d → PlainItems n ds → PlainItems n (item d ds)
one_item n d ds here rest = record { shallow = max_within (depth d) (items_depth ds) n here.shallow rest.shallow; valid = and_from (has_valid_dates d) (items_have_valid_dates ds) here.valid rest.valid }

pub no_item : (n : ℕ) → PlainItems n no_items
no_item n = record { shallow = omega arith; valid = refl }

pub no_member : (n : ℕ) → PlainMembers n no_members
no_member n = record { shallow = omega arith; valid = refl }

pub plain_table : (n : ℕ) (ms : Members) → PlainMembers n ms → Plain (suc n) (table ms)
plain_table n ms plain = let s = plain.shallow in record { shallow = omega arith; valid = plain.valid }

pub plain_array : (n : ℕ) (ds : Items) → PlainItems n ds → Plain (suc n) (array ds)
plain_array n ds plain = let s = plain.shallow in record { shallow = omega arith; valid = plain.valid }

-- ---- members of a table in order

in_order : (k : List ℕ) (d : Data) (ms : Members) → members_are_sorted (member k d ms) ≡ true → (is_before k ms ≡ true) × (is_sorted d ≡ true) × (members_are_sorted ms ≡ true)
in_order k d ms sorted =
    let outer = and_parts (is_before k ms && is_sorted d) (members_are_sorted ms) sorted in
    let inner = and_parts (is_before k ms) (is_sorted d) outer.0 in
    (inner.0, inner.1, outer.1)

-- what is found is the first member or is found in the rest
found_at : (name l : List ℕ) (f e : Data) (rest : Members) (o : Ordering) → slice_cmp nat_cmp name l ≡ o → match_ordering o (get_member name rest) (Some f) (get_member name rest) ≡ Some e → ((name ≡ l) × (f ≡ e)) ⊎ (get_member name rest ≡ Some e)
found_at name l f e rest Less is found = inr found
found_at name l f e rest Equal is found = inl (equal_names name l (rw is refl), cc)
found_at name l f e rest Greater is found = inr found

found : (name l : List ℕ) (f e : Data) (rest : Members) → get_member name (member l f rest) ≡ Some e → ((name ≡ l) × (f ≡ e)) ⊎ (get_member name rest ≡ Some e)
found name l f e rest there = found_at name l f e rest (slice_cmp nat_cmp name l) refl there

-- what stands in the rest has a greater name
above : (k : List ℕ) (ms : Members) (name : List ℕ) (e : Data) → is_before k ms ≡ true → members_are_sorted ms ≡ true → get_member name ms ≡ Some e → slice_cmp nat_cmp k name ≡ Less
above k no_members name e first sorted there = absurd cc
above k (member l f ms) name e first sorted there =
    let parts = in_order l f ms sorted in
    let less = less_is (slice_cmp nat_cmp k l) first in
    elim (found name l f e ms there) [
      | inl here ↦ rw here.0 less
      | inr rest ↦ nat_list_cmp_total.trans k l name less (above l ms name e parts.0 parts.2 rest)
    ]

stays : (k name : List ℕ) (d e : Data) (ms : Members) → slice_cmp nat_cmp k name ≡ Less → get_member name ms ≡ Some e → get_member name (member k d ms) ≡ Some e
stays k name d e ms less there =
    let back : slice_cmp nat_cmp name k ≡ Greater = nat_list_cmp_total.antisymm name k ∙ ap ordering_reverse less in
    rw back there

first_is : (k : List ℕ) (d : Data) (ms : Members) → get_member k (member k d ms) ≡ Some d
first_is k d ms = rw (tied_itself nat_list_cmp_total k) refl

-- a table in order is plain where all that its names find is
pub members_plain : (n : ℕ) (ms : Members) → members_are_sorted ms ≡ true → ((name : List ℕ) (d : Data) → get_member name ms ≡ Some d → Plain n d) → PlainMembers n ms
members_plain n no_members sorted all = no_member n
members_plain n (member k d ms) sorted all =
    let parts = in_order k d ms sorted in
    one_member n k d ms (all k d (first_is k d ms))
    (members_plain n ms parts.2 (λ name e there. all name e (stays k name d e ms (above k ms name e parts.0 parts.2 there) there)))

-- what a table in order holds is in order
pub member_sorted : (name : List ℕ) (e : Data) (ms : Members) → members_are_sorted ms ≡ true → get_member name ms ≡ Some e → is_sorted e ≡ true
member_sorted name e no_members sorted there = absurd cc
member_sorted name e (member k d ms) sorted there =
    let parts = in_order k d ms sorted in
    elim (found name k d e ms there) [
      | inl here ↦ subst (λ x. is_sorted x ≡ true) here.1 parts.1
      | inr rest ↦ member_sorted name e ms parts.2 rest
    ]

-- what holds of each key's text holds of each known name
of_known : (P : List ℕ → Type 0) (keys : List Key) (name : List ℕ) → is_known keys name ≡ true → AllByRecursion (λ k. P (key_text k)) keys → P name
of_known P [] name known all = absurd (true≢false (sym known))
of_known P (k ∷ keys) name known all =
    elim (cases_Bool (bytes_eq (key_text k) name)) [
      | inl same ↦ subst P ((bytes_eq-Decides (key_text k) name).0 same) all.0
      | inr off ↦ of_known P keys name (rw off at known) all.1
    ]

-- what stands at the name, if anything, is plain
abbrev pub Holds : ℕ → Members → List ℕ → Type 0
Holds n ms name = (d : Data) → get_member name ms ≡ Some d → Plain n d

-- a table with known keys alone, in order, is plain where what stands at these keys is
pub known_plain : (n : ℕ) (keys : List Key) (ms : Members) → HasOnly keys ms → members_are_sorted ms ≡ true → AllByRecursion (λ k. Holds n ms (key_text k)) keys → PlainMembers n ms
known_plain n keys ms only sorted all = members_plain n ms sorted (λ name d there. of_known (Holds n ms) keys name (only name (rw there refl)) all d there)

-- ---- a table with one member put into it

match_plain : (n : ℕ) (o : Ordering) (a b c : Members) → PlainMembers n a → PlainMembers n b → PlainMembers n c → PlainMembers n (match_ordering o a b c)
match_plain n Less a b c p q r = p
match_plain n Equal a b c p q r = q
match_plain n Greater a b c p q r = r

parts_plain : (n : ℕ) (k : List ℕ) (d : Data) (ms : Members) → PlainMembers n (member k d ms) → Plain n d × PlainMembers n ms
parts_plain n k d ms plain =
    let s = plain.shallow in
    let v = and_parts (has_valid_dates d) (members_have_valid_dates ms) plain.valid in
    (record { shallow = omega arith; valid = v.0 }, record { shallow = omega arith; valid = v.1 })

pub put_plain : (n : ℕ) (k : List ℕ) (d : Data) (ms : Members) → Plain n d → PlainMembers n ms → PlainMembers n (put k d ms)
put_plain n k d no_members here rest = one_member n k d no_members here rest
put_plain n k d (member l e ms) here rest =
    let parts = parts_plain n l e ms rest in
    match_plain n (slice_cmp nat_cmp k l) (member k d (member l e ms)) (member l d ms) (member l e (put k d ms)) (one_member n k d (member l e ms) here rest) (one_member n l d ms here parts.1) (one_member n l e (put k d ms) parts.0 (put_plain n k d ms here parts.1))

-- the tables as one value
pub tables_plain : (n : ℕ) (ts : List Members) → AllByRecursion (PlainMembers n) ts → PlainItems (suc n) (items_of (map table ts))
tables_plain n [] all = no_item (suc n)
tables_plain n (t ∷ ts) all = one_item (suc n) (table t) (items_of (map table ts)) (plain_table n t all.0) (tables_plain n ts all.1)

-- what a plain table holds is plain
pub member_plain : (n : ℕ) (name : List ℕ) (e : Data) (ms : Members) → PlainMembers n ms → get_member name ms ≡ Some e → Plain n e
member_plain n name e no_members plain there = absurd cc
member_plain n name e (member k d ms) plain there =
    let parts = parts_plain n k d ms plain in
    elim (found name k d e ms there) [
      | inl here ↦ subst (Plain n) here.1 parts.0
      | inr rest ↦ member_plain n name e ms parts.1 rest
    ]

pub item_parts : (n : ℕ) (d : Data) (ds : Items) → PlainItems n (item d ds) → Plain n d × PlainItems n ds
item_parts n d ds plain =
    let s = plain.shallow in
    let v = and_parts (has_valid_dates d) (items_have_valid_dates ds) plain.valid in
    (record { shallow = omega arith; valid = v.0 }, record { shallow = omega arith; valid = v.1 })

pub array_plain : (n : ℕ) (ds : Items) → Plain (suc n) (array ds) → PlainItems n ds
array_plain n ds plain = let s = plain.shallow in record { shallow = omega arith; valid = plain.valid }

pub inner_plain : (n : ℕ) (ms : Members) → Plain (suc n) (table ms) → PlainMembers n ms
inner_plain n ms plain = let s = plain.shallow in record { shallow = omega arith; valid = plain.valid }
