-- Values without floats that are not deep: how each is made of its parts. A crate that makes objects of its own shows by these that
-- they are plain, member by member: `object_plain 1 (with_member text_plain (with_member count_plain no_more))`.
use Rattle.std.proofs.Common.{◌≡◌, ◌≤◌, ◌+◌, ℕ, List, [], ◌∷◌, All, Bool, Option, Some, None, arith, false, map, refl}
use Rattle.std.proofs.lemmas.List.Elements.{All-head, All-tail}
use Rattle.serde_json.specs.Data.{Data, null, boolean, string, array, object, items_depth, members_depth, Members, no_members, member}
use Rattle.serde_json.specs.View.{items_of}
use Rattle.serde_json.specs.Written.{items_have_float, members_have_float}
use Rattle.sw_json.specs.Plain.{IsPlain}
use Rattle.sw_json.specs.Simple.{count_value, count_or_null, text_or_null, texts_value}

-- each member's value is plain
pub record ArePlain (most : ℕ) (members : Members) : Type 0 where
  pub whole : members_have_float members ≡ false
  pub flat : members_depth members ≤ most

-- ---- simple values

pub text_plain : {n : ℕ} {text : List ℕ} → IsPlain n (string text)
text_plain = record { whole = refl; flat = omega arith }

pub count_plain : {n count : ℕ} → IsPlain n (count_value count)
count_plain = record { whole = refl; flat = omega arith }

pub flag_plain : {n : ℕ} {b : Bool} → IsPlain n (boolean b)
flag_plain = record { whole = refl; flat = omega arith }

pub null_plain : {n : ℕ} → IsPlain n null
null_plain = record { whole = refl; flat = omega arith }

pub count_or_null_plain : {n : ℕ} (count : Option ℕ) → IsPlain n (count_or_null count)
count_or_null_plain None = null_plain
count_or_null_plain (Some count) = count_plain

pub text_or_null_plain : {n : ℕ} (text : Option (List ℕ)) → IsPlain n (text_or_null text)
text_or_null_plain None = null_plain
text_or_null_plain (Some text) = text_plain

-- what has so many levels at most has no more than more
pub plain_at_more : (n m : ℕ) (value : Data) → n ≤ m → IsPlain n value → IsPlain m value
plain_at_more n m value at_most p = record { whole = p.whole; flat = omega (arith, at_most, p.flat) }

-- ---- lists

items_flat : (n : ℕ) (values : List Data) → All (IsPlain n) values → items_depth (items_of values) ≤ n
items_flat n [] all = omega arith
items_flat n (d ∷ ds) all = omega (arith, (All-head (IsPlain n) d ds all).flat, items_flat n ds (All-tail (IsPlain n) d ds all))

items_whole : (n : ℕ) (values : List Data) → All (IsPlain n) values → items_have_float (items_of values) ≡ false
items_whole n [] all = refl
items_whole n (d ∷ ds) all = rw ((All-head (IsPlain n) d ds all).whole, items_whole n ds (All-tail (IsPlain n) d ds all)) refl

-- a list is one level deeper than its values
pub list_plain : (n : ℕ) (values : List Data) → All (IsPlain n) values → IsPlain (n + 1) (array (items_of values))
list_plain n values all = record { whole = items_whole n values all; flat = omega (arith, items_flat n values all) }

-- a list of the values that a function makes of elements, where each is plain
made_flat : {A : Type 0} (n : ℕ) (f : A → Data) → ((x : A) → IsPlain n (f x)) → (xs : List A) → items_depth (items_of (map f xs)) ≤ n
made_flat n f each [] = omega arith
made_flat n f each (x ∷ xs) = omega (arith, (each x).flat, made_flat n f each xs)

made_whole : {A : Type 0} (n : ℕ) (f : A → Data) → ((x : A) → IsPlain n (f x)) → (xs : List A) → items_have_float (items_of (map f xs)) ≡ false
made_whole n f each [] = refl
made_whole n f each (x ∷ xs) = rw ((each x).whole, made_whole n f each xs) refl

pub made_plain : {A : Type 0} (n : ℕ) (f : A → Data) → ((x : A) → IsPlain n (f x)) → (xs : List A) → IsPlain (n + 1) (array (items_of (map f xs)))
made_plain n f each xs = record { whole = made_whole n f each xs; flat = omega (arith, made_flat n f each xs) }

pub texts_plain : (n : ℕ) (texts : List (List ℕ)) → IsPlain (n + 1) (texts_value texts)
texts_plain n texts = made_plain n string (λ text. text_plain) texts

-- ---- objects

pub no_more : {n : ℕ} → ArePlain n no_members
no_more = record { whole = refl; flat = omega arith }

-- one member more
pub with_member : {n : ℕ} {key : List ℕ} {value : Data} {members : Members} → IsPlain n value → ArePlain n members → ArePlain n (member key value members)
with_member p ps = record { whole = rw (p.whole, ps.whole) refl; flat = omega (arith, p.flat, ps.flat) }

-- an object is one level deeper than the values of its members
pub object_plain : (n : ℕ) {members : Members} → ArePlain n members → IsPlain (n + 1) (object members)
object_plain n ps = record { whole = ps.whole; flat = omega (arith, ps.flat) }
