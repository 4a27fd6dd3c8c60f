-- A number that is read digit by digit.
use Rattle.std.proofs.Common.{◌≡◌, ◌∙◌, ◌+◌, ◌*◌, ◌^◌, ◌<◌, ◌≤◌, ◌&&◌, ℕ, Bool, true, false, List, [], ◌∷◌, Option, Some, None, Fits, ap, arith, drop, get_or, length, refl, sym, w64}
use Rattle.std.specs.Prelude.{◌==◌, nat_le, nat_lt, if◌then◌else◌}
use Rattle.std.specs.Char.{digit_value}
use Rattle.std.proofs.lemmas.Bool.{lt-ltb}
use Rattle.std.proofs.lemmas.Bool.Decides.{nat_tests}
use Rattle.std.proofs.lemmas.List.{drop_all, drop_more}
use Rattle.std.proofs.lemmas.Nat.{mul-le}
use Rattle.sw_app_rmap.specs.Words.{digits_of, goes_on}

at_most : (m n : ℕ) → m ≤ n → nat_le m n ≡ true
at_most m n le = grind (arith, nat_tests)

not_at_most : (m n : ℕ) → n < m → nat_le m n ≡ false
not_at_most m n lt = grind (arith, nat_tests)

not_less : (m n : ℕ) → (m < n → ⊥) → nat_lt m n ≡ false
not_less m n fails = grind (arith, nat_tests)

both_but_second : (test : Bool) (o : Option ℕ) → (if test && false then o else None) ≡ None
both_but_second true o = refl
both_but_second false o = refl

one_at_least : (base limit : ℕ) (cs : List ℕ) → 0 < length cs → digits_of base limit cs ≡ goes_on base limit 0 cs
one_at_least base limit [] some = absurd (omega arith)
one_at_least base limit (c ∷ cs) some = refl

-- the digit at a place
module _ (base limit n i c d : ℕ) (cs : List ℕ) (lt : i < length cs) (is : c ≡ get_or cs i d) (so_far : goes_on base limit n (drop i cs) ≡ goes_on base limit 0 cs) where
  whole : goes_on base limit n (c ∷ drop (i + 1) cs) ≡ goes_on base limit 0 cs
  whole = ap (λ x. goes_on base limit n (x ∷ drop (i + 1) cs)) is ∙ ap (goes_on base limit n) (sym (drop_more cs i d lt)) ∙ so_far

  all : digits_of base limit cs ≡ goes_on base limit n (c ∷ drop (i + 1) cs)
  all = one_at_least base limit cs (omega (arith, lt)) ∙ sym whole

  pub no_digit : (digit_value c < base → ⊥) → None ≡ digits_of base limit cs
  no_digit fails = sym (all ∙ rw (not_less (digit_value c) base fails) refl)

  module _ (b m : ℕ) (base_is : b ≡ base) (digit_is : m ≡ digit_value c) where
    pub next_digit : digit_value c < base → b * n + m ≤ limit → goes_on base limit (b * n + m) (drop (i + 1) cs) ≡ goes_on base limit 0 cs
    next_digit low fits =
        let within : base * n + digit_value c ≤ limit = rw (← base_is, ← digit_is) fits in
        let reads : goes_on base limit n (c ∷ drop (i + 1) cs) ≡ goes_on base limit (base * n + digit_value c) (drop (i + 1) cs) =
        rw (lt-ltb (digit_value c) base low, at_most (base * n + digit_value c) limit within) refl in
        rw (base_is, digit_is) (sym reads ∙ whole)

    pub too_large : limit < b * n + m → None ≡ digits_of base limit cs
    too_large past =
        let above : limit < base * n + digit_value c = rw (← base_is, ← digit_is) past in
        sym (all ∙ rw (not_at_most (base * n + digit_value c) limit above) (both_but_second (nat_lt (digit_value c) base) _))

-- the end of the digits
pub all_read : (base limit n i : ℕ) (cs : List ℕ) (empty : Bool) → empty ≡ (length cs == 0) → empty ≡ false → length cs ≤ i → goes_on base limit n (drop i cs) ≡ goes_on base limit 0 cs
    → Some n ≡ digits_of base limit cs
all_read base limit n i [] empty is some past so_far = absurd cc
all_read base limit n i (c ∷ cs) empty is some past so_far = ap (goes_on base limit n) (sym (drop_all i (c ∷ cs) past)) ∙ so_far

-- a number up to the limit with one digit more has room
pub product_fits : (b base n limit : ℕ) → b ≡ base → base ≤ 36 → n ≤ limit → limit < 2 ^ 40 → Fits w64 (b * n)
product_fits b base n limit same high low within =
    let most : b * n ≤ 36 * limit = mul-le b n 36 limit (omega (arith, same, high)) low in
    omega (arith, most, within)

pub sum_fits : (b base n limit m digit : ℕ) → b ≡ base → base ≤ 36 → n ≤ limit → limit < 2 ^ 40 → m ≡ digit → digit < base → Fits w64 (b * n + m)
sum_fits b base n limit m digit same high low within is below =
    let most : b * n ≤ 36 * limit = mul-le b n 36 limit (omega (arith, same, high)) low in
    omega (arith, most, within, is, below, high)
