-- How large the numbers of an order are.
use Rattle.std.proofs.Common.{◌≡◌, ℕ, ◌+◌, ◌*◌, ◌≤◌, Bool, true, false, ◌&&◌, List, [], ◌∷◌, length, drop, Option, Some, None, Ok, refl, arith}
use Rattle.std.specs.Prelude.{nat_le, option_and_then, option_map, if◌then◌else◌}
use Rattle.std.specs.Char.{digit_value}
use Rattle.std.proofs.lemmas.Bool.{and_parts, leb-true}
use Rattle.sw_load.specs.Cargo.{bytes_after, if_some_and_few, pairs_of}
use Rattle.sw_app_rmap.specs.declared.fault.RmapFault.TheVariants.{BadData, BadLength}
use Rattle.sw_app_rmap.specs.declared.request.Access.{Access}
use Rattle.sw_app_rmap.specs.declared.request.Access.TheVariants as access
use Rattle.sw_app_rmap.specs.declared.request.Request.{Request}
use Rattle.sw_app_rmap.specs.Orders.{Action, IsSmall, RmapOrder, action_of, length_of, order_of, reads, transaction_of, writes}
use Rattle.sw_text.specs.Gives.{ok_or}
use Rattle.sw_app_rmap.specs.Words.{digits_of, goes_on, is_hexadecimal, number_of}
use Rattle.sw_app_rmap.proofs.Parts.{goes_on as parts_of, is_read, is_there}
use Rattle.sw_config.proofs.Lists.{none_some}

only_if : {A : Type 0} (test : Bool) (o : Option A) (a : A) → (if test then o else None) ≡ Some a → (test ≡ true) × (o ≡ Some a)
only_if true o a h = (refl, h)
only_if false o a h = absurd (none_some a h)

goes_within : (base limit n m : ℕ) (cs : List ℕ) → n ≤ limit → goes_on base limit n cs ≡ Some m → m ≤ limit
goes_within base limit n m [] few e = let same : n ≡ m = cc in omega (arith, same, few)
goes_within base limit n m (c ∷ cs) few e =
    let passes = only_if _ _ m e in
    goes_within base limit (base * n + digit_value c) m cs (leb-true _ limit (and_parts _ _ passes.0).1) passes.1

digits_within : (base limit m : ℕ) (cs : List ℕ) → digits_of base limit cs ≡ Some m → m ≤ limit
digits_within base limit m [] e = absurd (none_some m e)
digits_within base limit m (c ∷ cs) e = goes_within base limit 0 m (c ∷ cs) (omega arith) e

either_within : (test : Bool) (limit m : ℕ) (x y : Option ℕ) → (x ≡ Some m → m ≤ limit) → (y ≡ Some m → m ≤ limit) → (if test then x else y) ≡ Some m → m ≤ limit
either_within true limit m x y f g e = f e
either_within false limit m x y f g e = g e

pub number_within : (limit m : ℕ) (word : List ℕ) → number_of limit word ≡ Some m → m ≤ limit
number_within limit m word e =
    either_within (is_hexadecimal word) limit m (digits_of 16 limit (drop 2 word)) (digits_of 10 limit word)
    (digits_within 16 limit m (drop 2 word)) (digits_within 10 limit m word) e

transaction_within : (word : Option (List ℕ)) (m : ℕ) → transaction_of word ≡ Some m → m ≤ 65535
transaction_within None m e = let same : 0 ≡ m = cc in omega (arith, same)
transaction_within (Some word) m e = number_within 65535 m word e

few_bytes : (o : Option (List ℕ)) (bytes : List ℕ) → option_and_then if_some_and_few o ≡ Some bytes → length bytes ≤ 4096
few_bytes None bytes e = absurd (none_some bytes e)
few_bytes (Some all) bytes e =
    let passes = only_if (nat_le 1 (length all) && nat_le (length all) 4096) (Some all) bytes e in
    let same : all ≡ bytes = some_same all bytes passes.1 in
    rw (← same) (leb-true (length all) 4096 (and_parts _ _ passes.0).1)
  where
    some_same : (a b : List ℕ) → Some a ≡ Some b → a ≡ b
    some_same a b e = cc

action_within : (a : Access) (action : Action) → action_of a ≡ Ok action → length_of action ≤ 16777215
unfolding action_of
action_within (access.Read count) action h =
    let n = parts_of (ok_or (number_of 16777215 count.now) BadLength) (λ k. Ok (reads k)) action h in
    let same : reads n.0 ≡ action = cc in
    let within : n.0 ≤ 16777215 = number_within 16777215 n.0 count.now (is_there (number_of 16777215 count.now) BadLength n.0 n.1) in
    rw (← same) within
action_within (access.Write pairs acknowledged) action h =
    let bytes = parts_of (ok_or (pairs_of pairs.now) BadData) (λ b. Ok (writes b acknowledged)) action h in
    let same : writes bytes.0 acknowledged ≡ action = cc in
    let few : length bytes.0 ≤ 4096 = few_bytes (bytes_after [] pairs.now) bytes.0 (is_there (pairs_of pairs.now) BadData bytes.0 bytes.1) in
    let within : length bytes.0 ≤ 16777215 = omega (arith, few) in
    rw (← same) within

-- the numbers of an order that was read fit
pub is_small : (r : Request) (o : RmapOrder) → order_of r ≡ Ok o → IsSmall o
is_small r o h =
    let is = is_read r o h in
    record {
      address = number_within 1099511627775 o.address r.address.now is.address;
      transaction = transaction_within (option_map (λ w. w.now) r.transaction) o.transaction is.transaction;
      count = action_within r.access o.action is.action;
    }
