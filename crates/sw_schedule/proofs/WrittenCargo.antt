-- What is written of a cargo is read as its bytes.
use Rattle.std.proofs.Common.{◌≡◌, ℕ, ◌+◌, ◌-◌, ◌*◌, ◌/◌, ◌%◌, ◌^◌, ◌<◌, ◌≤◌, true, false, not, List, [], ◌∷◌, ◌++◌, length, replicate, Some, refl, sym, ap, subst, ◌∙◌, ◌⊎◌, inl, inr, arith, eqb-true, ne_eqb}
use Rattle.std.specs.Prelude.{◌==◌, All, fold, nat_le}
use Rattle.std.specs.Fmt.{decimal}
use Rattle.std.specs.List.{list_all}
use Rattle.std.proofs.lemmas.Bool.{and_parts, and_from, cases_Bool, le-leb}
use Rattle.std.proofs.lemmas.Fmt.{decimal_by_steps}
use Rattle.std.proofs.lemmas.List.Elements.{All-nil, All-cons, All-head, All-tail}
use Rattle.hex.specs.Hex.{encode_upper, encode_with}
use Rattle.sw_load.specs.Cargo.{CargoIsRead, IsCargo, IsCount, IsPairs, IsRepeated, bytes_of, cargo_of, decimal_value, is_digit, is_well_begun, without_spaces}
use Rattle.sw_load.proofs.Digits.{IsBytes, are_pairs, digit, digit_right, pair}
use Rattle.sw_schedule.specs.Spelling.{IsWord}
use Rattle.sw_schedule.specs.TextLaws.{IsShort}
use Rattle.sw_schedule.specs.WrittenLines.{cargo_text}
use Rattle.sw_schedule.proofs.Words.{Free, both_free, decimal_plain}

-- ---- the pairs of bytes

pairs_plain : (bytes : List ℕ) → IsBytes bytes → IsWord (encode_upper bytes)
unfolding encode_with
pairs_plain [] h = record { no_space = All-nil (λ b. (b == 32) ≡ false); no_lf = All-nil (λ b. (b == 10) ≡ false) }
pairs_plain (b ∷ bytes) h =
    let high = digit_right (b / 16) (let lt = h.0 in omega (arith, lt)) in
    let low = digit_right (b % 16) (omega arith) in
    let rest = pairs_plain bytes h.1 in
    record {
      no_space = All-cons (λ b. (b == 32) ≡ false) (digit (b / 16)) (digit (b % 16) ∷ encode_upper bytes) high.no_space (All-cons (λ b. (b == 32) ≡ false) (digit (b % 16)) (encode_upper bytes) low.no_space rest.no_space);
      no_lf = All-cons (λ b. (b == 10) ≡ false) (digit (b / 16)) (digit (b % 16) ∷ encode_upper bytes) high.no_lf (All-cons (λ b. (b == 10) ≡ false) (digit (b % 16)) (encode_upper bytes) low.no_lf rest.no_lf);
    }

-- ---- the count of bytes that are alike

record Counts (n : ℕ) (ds : List ℕ) : Type 0 where
  digits : list_all is_digit ds ≡ true
  value : decimal_value ds ≡ n
  begun : 0 < n → is_well_begun ds ≡ true

fold_more : (start c : ℕ) (ds : List ℕ) → fold (λ n c. 10 * n + (c - 48)) start (ds ++ c ∷ []) ≡ 10 * fold (λ n c. 10 * n + (c - 48)) start ds + (c - 48)
fold_more start c [] = refl
fold_more start c (d ∷ ds) = fold_more (10 * start + (d - 48)) c ds

digits_more : (c : ℕ) (ds : List ℕ) → list_all is_digit ds ≡ true → is_digit c ≡ true → list_all is_digit (ds ++ c ∷ []) ≡ true
digits_more c [] h k = and_from (is_digit c) true k refl
digits_more c (d ∷ ds) h k =
    let parts = and_parts (is_digit d) (list_all is_digit ds) h in
    and_from (is_digit d) (list_all is_digit (ds ++ c ∷ [])) parts.0 (digits_more c ds parts.1 k)

begun_more : (c : ℕ) (ds : List ℕ) → is_well_begun ds ≡ true → is_well_begun (ds ++ c ∷ []) ≡ true
begun_more c [] h = absurd cc
begun_more c (d ∷ ds) h = h

is_one_digit : (n : ℕ) → n < 10 → is_digit (48 + n) ≡ true
is_one_digit n lt = and_from (nat_le 48 (48 + n)) (nat_le (48 + n) 57) (le-leb 48 (48 + n) (omega arith)) (le-leb (48 + n) 57 (omega arith))

not_zero : (n : ℕ) → 0 < n → not (48 + n == 48) ≡ true
not_zero n pos = let e : (48 + n == 48) ≡ false = ne_eqb (48 + n) 48 (λ same. omega (arith, pos, same)) in rw e refl

counts_one : (n : ℕ) → n < 10 → Counts n ((48 + n) ∷ [])
counts_one n small = record {
  digits = and_from (is_digit (48 + n)) true (is_one_digit n small) refl;
  value = omega arith;
  begun = λ pos. not_zero n pos;
}

counts_more : (n : ℕ) (ds : List ℕ) → 10 ≤ n → Counts (n / 10) ds → Counts n (ds ++ ((48 + n % 10) ∷ []))
counts_more n ds big h =
    let value = h.value in
    let step = fold_more 0 (48 + n % 10) ds in
    let lt : n % 10 < 10 = omega arith in
    record {
      digits = digits_more (48 + n % 10) ds h.digits (is_one_digit (n % 10) lt);
      value = omega (arith, value, step);
      begun = λ pos. begun_more (48 + n % 10) ds (h.begun (omega arith));
    }

counts : (n : ℕ) → n < 2 ^ 30 → Counts n (decimal n)
counts n lt = decimal_by_steps Counts counts_one counts_more n (omega arith)

is_count : (n : ℕ) → 1 ≤ n → n ≤ 4096 → IsCount (decimal n) n
is_count n some few = let c = counts n (omega arith) in record { begins = c.begun some; decimal = c.digits; value = c.value; few = few }

-- ---- a text without spaces

spaceless : (text : List ℕ) → Free 32 text → without_spaces text ≡ text
spaceless [] h = refl
spaceless (c ∷ text) h = rw (All-head (λ b. (b == 32) ≡ false) c text h, spaceless text (All-tail (λ b. (b == 32) ≡ false) c text h)) refl

read_from : CargoIsRead → (text bytes : List ℕ) → Free 32 text → IsPairs text bytes ⊎ IsRepeated text bytes → bytes_of text ≡ Some bytes
unfolding cargo_of
read_from is_read text bytes free spelled =
    let same = spaceless text free in
    let cargo : IsCargo text bytes = subst (λ t. IsPairs t bytes ⊎ IsRepeated t bytes) (sym same) spelled in
    ap bytes_of (sym same) ∙ (is_read text bytes).1 cargo

all_alike : (b : ℕ) (bytes : List ℕ) → list_all (λ c. c == b) bytes ≡ true → bytes ≡ replicate (length bytes) b
all_alike b [] h = refl
all_alike b (c ∷ bytes) h =
    let parts = and_parts (c == b) (list_all (λ c. c == b) bytes) h in
    let same : c ≡ b = eqb-true c b parts.0 in
    rw same (ap (λ bs. b ∷ bs) (all_alike b bytes parts.1))

recursive : (cargo : List ℕ) → All (λ b. b < 256) cargo → IsBytes cargo
recursive [] h = tt
recursive (b ∷ bytes) h = (All-head (λ b. b < 256) b bytes h, recursive bytes (All-tail (λ b. b < 256) b bytes h))

pub record Spells (text cargo : List ℕ) : Type 0 where
  pub plain : IsWord text
  pub read : bytes_of text ≡ Some cargo

repeated : CargoIsRead → (b : ℕ) (bytes : List ℕ) → IsBytes (b ∷ bytes) → length (b ∷ bytes) ≤ 4096 → list_all (λ c. c == b) bytes ≡ true
    → Spells (encode_upper (b ∷ []) ++ (42 ∷ decimal (length (b ∷ bytes)))) (b ∷ bytes)
unfolding encode_with
repeated is_read b bytes h few t =
    let n = length (b ∷ bytes) in
    let low : n < 2 ^ 30 = omega (arith, few) in
    let one = pairs_plain (b ∷ []) (h.0, tt) in
    let number = decimal_plain n low in
    let text = encode_upper (b ∷ []) ++ (42 ∷ decimal n) in
    let plain : IsWord text = record {
      no_space = both_free 32 (encode_upper (b ∷ [])) (42 ∷ decimal n) one.no_space (All-cons (λ b. (b == 32) ≡ false) 42 (decimal n) refl number.no_space);
      no_lf = both_free 10 (encode_upper (b ∷ [])) (42 ∷ decimal n) one.no_lf (All-cons (λ b. (b == 10) ≡ false) 42 (decimal n) refl number.no_lf);
    } in
    let same : b ∷ bytes ≡ replicate n b = ap (λ bs. b ∷ bs) (all_alike b bytes t) in
    let spelled : IsRepeated text (b ∷ bytes) = record {
      high = digit (b / 16);
      low = digit (b % 16);
      byte = b;
      digits = decimal n;
      count = n;
      spelled = refl;
      pair = pair b h.0;
      counted = is_count n (omega arith) few;
      repeated = same;
    } in
    record { plain = plain; read = read_from is_read text (b ∷ bytes) plain.no_space (inr spelled) }

pub cargo_spelled : CargoIsRead → (cargo : List ℕ) → IsShort cargo → 1 ≤ length cargo → Spells (cargo_text cargo) cargo
cargo_spelled is_read [] short some = absurd (omega (arith, some))
cargo_spelled is_read (b ∷ bytes) short some =
    let h = recursive (b ∷ bytes) short.bytes in
    let few = short.few in
    elim (cases_Bool (list_all (λ c. c == b) bytes)) [
      | inl t ↦ rw t (repeated is_read b bytes h few t)
      | inr f ↦ rw f (let plain = pairs_plain (b ∷ bytes) h in record {
        plain = plain;
        read = read_from is_read (encode_upper (b ∷ bytes)) (b ∷ bytes) plain.no_space (inl (record { pairs = are_pairs (b ∷ bytes) h; some = some; few = few }));
      })
    ]
