-- What stands behind the last `/` of a path, and its bytes as a name may have them.
use Rattle.std.proofs.Common.{◌≡◌, ◌∙◌, ◌≤◌, ◌<◌, ℕ, ◌+◌, ◌-◌, ◌==◌, true, false, cond, List, [], ◌∷◌, ◌++◌, Option, Some, None, MatchOption, Bool, Bor, ap, arith, drop, eq-eqb, get_or, get_or-drop, length, length-drop, map, ne_eqb, refl, subst, sym, take}
use Rattle.std.specs.Prelude.{not, reverse}
use Rattle.std.specs.List.{prefix_len}
use Rattle.std.specs.Str.Pattern.{RFindsChar, SplitsAroundMatch}
use Rattle.std.proofs.lemmas.List.{map_more}
use Rattle.std.proofs.lemmas.List.Sums.{suffix_len_is}
use Rattle.std.proofs.lemmas.Str.{len_utf8_ascii}
use Rattle.std.proofs.lemmas.Str.Pattern.{NoCharPasses-char}
use Rattle.sw_json_verdicts.specs.Names.{plain_byte}
use Rattle.sw_text.specs.Names.{is_name_byte}
use Rattle.sw_text.proofs.NameBytes.{name_byte_is_small}

-- what stands behind the last c, or all where there is none
abbrev pub behind : ℕ → List ℕ → List ℕ
behind c bs = drop (length bs - prefix_len (λ b. not (b == c)) (reverse bs)) bs

from_place : (c : ℕ) (bs : List ℕ) (n : ℕ) → n ≤ length bs → ((k : ℕ) → n ≤ k → k < length bs → get_or bs k 0 ≡ c → ⊥) → (0 < n → get_or bs (n - 1) 0 ≡ c)
    → drop n bs ≡ behind c bs
from_place c bs n within others here =
    let many = suffix_len_is (λ b. not (b == c)) bs n 0 within (λ k low high. ap not (ne_eqb _ c (others k low high))) (λ some. ap not (eq-eqb _ c (here some))) in
    let place : n ≡ length bs - prefix_len (λ b. not (b == c)) (reverse bs) = omega (arith, many, within) in
    ap (λ k. drop k bs) place

pub behind_last : (c : ℕ) (bs : List ℕ) (r : Option (Bor (List ℕ) × Bor (List ℕ)))
    → MatchOption r (RFindsChar c bs None) (λ x. SplitsAroundMatch (RFindsChar c) bs x.0.now x.1.now) → c < 128
    → MatchOption r (bs ≡ behind c bs) (λ x. x.1.now ≡ behind c bs)
behind_last c bs None none low = from_place c bs 0 (omega arith) (λ k from high. NoCharPasses-char c bs k none low high) (λ some. absurd (omega arith))
behind_last c bs (Some x) h low =
    let i = h.0 in
    let j = h.1 in
    let next : j ≡ i + 1 = omega (arith, h.2.1.ends, len_utf8_ascii c low) in
    let back : j - 1 ≡ i = omega arith in
    let within : j ≤ length bs = omega (arith, h.6) in
    h.4 ∙ from_place c bs j within
    (λ k from high at.
    let there : j + (k - j) ≡ k = omega arith in
    NoCharPasses-char c (drop j bs) (k - j) h.2.0 low (omega (arith, length-drop j bs)) (get_or-drop j bs (k - j) 0 ∙ ap (λ n. get_or bs n 0) there ∙ at))
    (λ some. ap (λ n. get_or bs n 0) back ∙ h.2.1.byte low)

-- ---- a byte more

by_test : (b : ℕ) (t : Bool) → is_name_byte b ≡ t → cond t b 95 < 128
by_test b true is = name_byte_is_small b is
by_test b false is = omega arith

plain_is_small : (b : ℕ) → plain_byte b < 128
plain_is_small b = by_test b (is_name_byte b) refl

pub byte_more : (encode : ℕ → List ℕ) (bs : List ℕ) (i d told : ℕ) (before after : List ℕ) → i < length bs → told ≡ plain_byte (get_or bs i d)
    → (told < 128 → encode told ≡ told ∷ []) → before ≡ map plain_byte (take i bs) → after ≡ before ++ encode told → after ≡ map plain_byte (take (i + 1) bs)
byte_more encode bs i d told before after lt is ascii so_far more =
    let small : told < 128 = subst (λ b. b < 128) (sym is) (plain_is_small (get_or bs i d)) in
    more ∙ (λ k. so_far k ++ (ascii small ∙ ap (λ b. b ∷ []) is) k) ∙ sym (map_more plain_byte bs i d lt)
